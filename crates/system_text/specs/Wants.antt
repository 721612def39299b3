-- Where memory may be wanting while a line of the frame is read: never in place of a fault.
use Rattle.std.specs.Prelude.{ℕ, ◌≡◌, true, Option, Some, None, List}
use Rattle.xs_text.specs.Bytes.{all_allowed}
use Rattle.system_model.specs.declared.frame_line.FrameLine.TheVariants as form
use Rattle.system_model.specs.declared.frame_line.SectionKind.TheVariants.{Source, Pins, Play}
use Rattle.system_model.specs.Frame.{Given, FrameSays, End, Form, says, fault_of}
use Rattle.system_text.specs.Sections.{Section, section_of}

-- a section that a line ends which has no byte that is not allowed
abbrev pub HasGoodEnd : Option Section → Type 0
HasGoodEnd None = ⊥
HasGoodEnd (Some section) = all_allowed section.end ≡ true

-- Something is kept of a line that says this. What is kept of a line that begins a source or a script is the section, which the lines
-- after it have to end.
abbrev pub IsKept : List (List ℕ) → FrameSays → Type 0
IsKept after End = Unit {0}
IsKept after (Form (form.Section (Source n))) = HasGoodEnd (section_of after)
IsKept after (Form (form.Section Pins)) = HasGoodEnd (section_of after)
IsKept after (Form (form.Section Play)) = ⊥
IsKept after (Form kept) = Unit {0}
IsKept after _ = ⊥

-- the line has no fault after what is given, and something of it is kept
pub record MayWant (given : Given) (line : List ℕ) (after : List (List ℕ)) : Type 0 where
  pub sound : fault_of given line ≡ None
  pub kept : IsKept after (says given line)
