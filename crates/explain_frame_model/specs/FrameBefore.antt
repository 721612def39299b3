-- What stands before a line of a system text: the lines of the frame, and where they leave off. None of these lines has a fault.
use Rattle.std.specs.Prelude.{ℕ, ◌+◌, Option, Some, None, if◌then◌else◌, List, [], ◌∷◌, get_or}
use Rattle.xs_text.specs.Words.{words_of_line}
use Rattle.system_model.specs.declared.frame_line.SectionKind.{SectionKind}
use Rattle.system_model.specs.declared.frame_line.SectionKind.TheVariants.{Source, Pins, Play}
use Rattle.system_model.specs.FrameLines.{edition_of_word, section_line, is_end}
use Rattle.explain_frame_model.specs.declared.frame.Inside.{Inside}
use Rattle.explain_frame_model.specs.declared.frame.Inside.TheVariants.{Frame, Text, Schedule}

-- ---- Sections

-- what the lines are read as after one that begins a section, or none
abbrev pub opened : Option SectionKind → Inside
opened None = Frame
opened (Some (Source n)) = Text
opened (Some Pins) = Text
opened (Some Play) = Schedule

-- what the next line is read as: within a section a line can only end it, and outside of the sections it begins one by its words
abbrev pub inside_after : Inside → List ℕ → Inside
inside_after Frame l = opened (section_line (words_of_line l))
inside_after Text l = if is_end l then Frame else Text
inside_after Schedule l = if is_end l then Frame else Schedule

unfoldable pub inside_after_lines : Inside → List (List ℕ) → Inside
inside_after_lines inside [] = inside
inside_after_lines inside (l ∷ ls) = inside_after_lines (inside_after inside l) ls

-- what the line after some lines of a text is read as, which are its first ones
abbrev pub inside_of : List (List ℕ) → Inside
inside_of ls = inside_after_lines Frame ls

-- ---- The lines of the frame

-- a line outside of the sections: its number in the text, from 1, and its first four words, each empty where there is none
pub record EarlierLine : Type 0 where
  pub number : ℕ
  pub name : List ℕ
  pub second : List ℕ
  pub third : List ℕ
  pub fourth : List ℕ

abbrev pub earlier_line : ℕ → List (List ℕ) → EarlierLine
earlier_line number words =
    record { number = number; name = get_or words 0 []; second = get_or words 1 []; third = get_or words 2 []; fourth = get_or words 3 [] }

-- a line before those that come after it, where it has words and stands outside of the sections
abbrev pub put_line : Inside → ℕ → List (List ℕ) → List EarlierLine → List EarlierLine
put_line Frame n (w ∷ ws) after = earlier_line n (w ∷ ws) ∷ after
put_line _ n words after = after

-- those of some lines, of which the first has a number
unfoldable pub lines_from : ℕ → Inside → List (List ℕ) → List EarlierLine
lines_from n inside [] = []
lines_from n inside (l ∷ ls) = put_line inside n (words_of_line l) (lines_from (n + 1) (inside_after inside l) ls)

-- those of the first lines of a text
abbrev pub frame_lines : List (List ℕ) → List EarlierLine
frame_lines ls = lines_from 1 Frame ls

-- the edition, which the first line with words gives
abbrev pub edition_of : List EarlierLine → Option ℕ
edition_of [] = None
edition_of (line ∷ lines) = edition_of_word line.second
