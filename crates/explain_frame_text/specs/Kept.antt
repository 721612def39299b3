-- A line of a system text, as it is kept.
use Rattle.std.specs.Prelude.{ℕ, List, ◌++◌}
use Rattle.xs_text.specs.Lines.{lines_of}
use Rattle.system_model.specs.declared.SysKind.{SysKind}
use Rattle.explain_model.specs.Quote.{quote_text}
use Rattle.explain_frame_model.specs.FrameTold.{FrameAt, lines_before, words_in, faulty_word, meant_by_words}
use Rattle.explain_frame_text.specs.declared.line_at.LineAt as kept
use Rattle.explain_frame_text.specs.declared.faulty_line.FaultyLine as faulty

abbrev pub line_of_kept : kept.LineAt → FrameAt
line_of_kept at = record { number = at.number; before = lines_of at.before.now; bytes = at.bytes.now }

abbrev pub faulty_of_kept : faulty.FaultyLine → FrameAt
faulty_of_kept at = record { number = at.number; before = lines_of at.front.now; bytes = at.bytes.now }

-- what is told of a line by its words
abbrev pub words_told : SysKind → FrameAt → List ℕ
words_told kind at =
    quote_text at.number at.bytes (faulty_word kind (lines_before at) (words_in at)).at ++ meant_by_words kind (lines_before at) (words_in at)
