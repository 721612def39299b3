-- What the reader finds of a line of the frame.
use Rattle.std.specs.Prelude.{ℕ, ◌≡◌, Option, Some, None, List, [], ◌∷◌, ◌++◌, Result, Ok, Err}
use Rattle.system_model.specs.declared.SysKind.{SysKind}
use Rattle.system_model.specs.declared.SysKind.TheVariants.{GivenTwice, IdTwice, LinkEndTwice, LinkToItself, BitTwice, NoSuchNode, TooMany, WireWithinNode, WidthsDiffer, PinWiredTwice, TooManyWires}
use Rattle.system_model.specs.declared.frame_line.FrameLine.{FrameLine}
use Rattle.system_model.specs.declared.frame_line.SectionKind.{SectionKind}
use Rattle.system_model.specs.declared.frame_line.SectionKind.TheVariants.{Source, Pins, Play}
use Rattle.system_model.specs.Frame.{SectionText, Given, FrameSays, End, Blank, Header, Form, says, says_form, fault_of, first_that_holds, names_none, is_given_twice, is_id_twice, is_link_to_itself, is_link_end_twice, is_bit_twice, is_wire_within_node, has_other_widths, is_pin_wired_twice, is_wire_too_many, is_too_many}
use Rattle.system_text.specs.Forms.{formed}
use Rattle.system_text.specs.Sections.{play_from}
use Rattle.system_text.specs.declared.frame.Said.{Said}
use Rattle.system_text.specs.declared.frame.Said.TheVariants as said

abbrev pub said_by : Said → FrameSays
said_by said.End = End
said_by said.Blank = Blank
said_by (said.Header edition) = Header edition
said_by (said.Form form) = Form form

-- what a line says, which has no fault, or its fault
abbrev pub Judges : Given → List ℕ → Result Said SysKind → Type 0
Judges given l (Ok found) = (fault_of given l ≡ None) × (says given l ≡ said_by found)
Judges given l (Err kind) = fault_of given l ≡ Some kind

-- the first that holds of the tests of a line whose form and numbers are good
abbrev pub later_fault : Given → FrameLine → Option SysKind
later_fault given form = first_that_holds (
    (NoSuchNode, names_none given (Form form))
    ∷ (GivenTwice, is_given_twice given (Form form))
    ∷ (IdTwice, is_id_twice given (Form form))
    ∷ (LinkToItself, is_link_to_itself (Form form))
    ∷ (LinkEndTwice, is_link_end_twice given (Form form))
    ∷ (BitTwice, is_bit_twice given (Form form))
    ∷ (WireWithinNode, is_wire_within_node (Form form))
    ∷ (WidthsDiffer, has_other_widths (Form form))
    ∷ (PinWiredTwice, is_pin_wired_twice given (Form form))
    ∷ (TooManyWires, is_wire_too_many given (Form form))
    ∷ (TooMany, is_too_many given (Form form))
    ∷ []
    )

-- it says nothing that another test than that of its bytes may refuse
abbrev pub IsFormless : Said → Type 0
IsFormless (said.Form form) = ⊥
IsFormless said = Unit {0}

-- this is the form of a line as the reader takes it, or that it has none or is out of range
pub record IsFormOf (given : Given) (l : List ℕ) (read : Result FrameLine SysKind) : Type 0 where
  pub form : Option FrameLine
  pub taken : read ≡ formed form
  pub said : says given l ≡ says_form form

-- the section `play` is being read
abbrev pub IsPlaying : Given → Type 0
IsPlaying given = (line : ℕ) × (given.reading ≡ Some (play_from line))

-- a section of which there is one
abbrev pub NamesNoNode : SectionKind → Type 0
NamesNoNode (Source n) = ⊥
NamesNoNode Pins = Unit {0}
NamesNoNode Play = Unit {0}

-- with a section that has ended
abbrev pub with_section : SectionText → Given → Given
with_section section given = record given { sections = given.sections ++ section ∷ []; reading = None }
