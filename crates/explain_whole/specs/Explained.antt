-- What `explain` answers to the bytes of a system text.
use Rattle.std.specs.Prelude.{ℕ, ◌+◌, Bool, ◌&&◌, nat_le, if◌then◌else◌, Option, Some, None, List, [], ◌++◌, length, codes}
use Rattle.xs_text.specs.Lines.{lines_of}
use Rattle.pin_scripts.specs.declared.pin_error.PinKind.{PinKind}
use Rattle.pin_scripts.specs.declared.pin_error.PinKind.TheVariants.{NoSuchNode}
use Rattle.source_model.specs.declared.AsmKind.{AsmKind}
use Rattle.system_model.specs.declared.frame_line.SectionKind.TheVariants as section
use Rattle.system_model.specs.System.{System, Plan, Frame, Source, Pins, system_of}
use Rattle.answer_model.specs.declared.Answer.{Answer}
use Rattle.answer_model.specs.declared.Status.TheVariants as status
use Rattle.answer_model.specs.Refusals.{frame_text, source_text, pins_text}
use Rattle.explain_model.specs.Told.{source_told}
use Rattle.explain_frame_model.specs.FrameGifts.{system_nodes}
use Rattle.explain_frame_model.specs.FrameTold.{frame_told}
use Rattle.explain_frame_model.specs.Script.{script_told}
use Rattle.warning_model.specs.Texts.{warnings_text}
use Rattle.warning_model.specs.Warnings.{warnings}
use Rattle.explain_whole.specs.Opened.{Opened, opened_in}

-- whether a number is that of one of some lines, which count from 1
abbrev pub is_line_of : List (List ℕ) → ℕ → Bool
is_line_of ls line = nat_le 1 line && nat_le line (length ls)

-- of the line of a source
abbrev pub told_of_source : AsmKind → ℕ → Option Opened → List ℕ
told_of_source kind line None = []
told_of_source kind line (Some opened) =
    if is_line_of opened.lines line then source_told kind (record { first = opened.opening + 1; lines = opened.lines; line = line }) else []

-- which nodes there are, where a line of the script names another one
abbrev pub nodes_told : PinKind → List (List ℕ) → List ℕ
nodes_told NoSuchNode ls = system_nodes ls
nodes_told _ ls = []

-- of the line of the script of a text
abbrev pub told_of_script : PinKind → ℕ → List (List ℕ) → Option Opened → List ℕ
told_of_script kind line ls None = []
told_of_script kind line ls (Some opened) =
    if is_line_of opened.lines line
    then script_told kind (record { first = opened.opening + 1; lines = opened.lines; line = line }) ++ nodes_told kind ls
    else []

abbrev pub explained_by : List (List ℕ) → System → Answer
explained_by ls (Plan plan) = record { text = codes "accepted\n" ++ warnings_text (warnings plan ls); status = status.Done }
explained_by ls (Frame line kind) = record { text = frame_text line kind ++ frame_told kind ls line; status = status.SystemFault }
explained_by ls (Source node line kind) =
    record { text = source_text node line kind ++ told_of_source kind line (opened_in (section.Source node) ls); status = status.SourceFault }
explained_by ls (Pins line kind) =
    record { text = pins_text line kind ++ told_of_script kind line ls (opened_in section.Pins ls); status = status.ScriptFault }

-- what is answered to the bytes of the input
abbrev pub explained : List ℕ → Answer
explained input = explained_by (lines_of input) (system_of input)
