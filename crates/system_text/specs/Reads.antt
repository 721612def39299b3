-- What the reader returns: what a text stands for, unless memory was wanting.
use Rattle.std.specs.Prelude.{ℕ, ◌≡◌, ◌+◌, Result, Ok, Err}
use Rattle.xs_text.specs.Lines.{Reading, lines_of, bytes_left}
use Rattle.pin_scripts.specs.declared.pin_error.PinKind.{PinKind}
use Rattle.source_model.specs.declared.AsmKind.{AsmKind}
use Rattle.sys_plan.specs.Plan.{PlanRec}
use Rattle.system_model.specs.declared.SysKind.{SysKind}
use Rattle.system_model.specs.Frame.{Given, Framed, Whole, Refused, frame_from}
use Rattle.system_model.specs.System.{System}
use Rattle.system_model.specs.System as stands
use Rattle.system_text.specs.declared.system_error.SystemError.{SystemError}
use Rattle.system_text.specs.declared.system_error.SystemError.TheVariants.{Frame, Source, Pins, Memory}

-- the plan or the refusal that the bytes stand for
abbrev pub ReadsSystem : System → Result PlanRec SystemError → Type 0
ReadsSystem system (Ok plan) = system ≡ stands.Plan plan
ReadsSystem system (Err (Frame line kind)) = system ≡ stands.Frame line kind
ReadsSystem system (Err (Source node line kind)) = system ≡ stands.Source node line kind
ReadsSystem system (Err (Pins line kind)) = system ≡ stands.Pins line kind
ReadsSystem system (Err Memory) = Unit {0}

-- this plan
abbrev pub GivesPlan : PlanRec → Result PlanRec SystemError → Type 0
GivesPlan plan (Ok given) = given ≡ plan
GivesPlan plan (Err e) = e ≡ Memory

-- this refusal of the frame
abbrev pub RefusesFrame : ℕ → SysKind → Result PlanRec SystemError → Type 0
RefusesFrame line kind (Ok plan) = ⊥
RefusesFrame line kind (Err Memory) = Unit {0}
RefusesFrame line kind (Err (Frame l k)) = (l ≡ line) × (k ≡ kind)
RefusesFrame line kind (Err (Source node l k)) = ⊥
RefusesFrame line kind (Err (Pins l k)) = ⊥

-- this refusal of a source
abbrev pub RefusesSource : ℕ → ℕ → AsmKind → Result PlanRec SystemError → Type 0
RefusesSource node line kind (Ok plan) = ⊥
RefusesSource node line kind (Err Memory) = Unit {0}
RefusesSource node line kind (Err (Frame l k)) = ⊥
RefusesSource node line kind (Err (Source n l k)) = (n ≡ node) × (l ≡ line) × (k ≡ kind)
RefusesSource node line kind (Err (Pins l k)) = ⊥

-- this refusal of the pin script
abbrev pub RefusesPins : ℕ → PinKind → Result PlanRec SystemError → Type 0
RefusesPins line kind (Ok plan) = ⊥
RefusesPins line kind (Err Memory) = Unit {0}
RefusesPins line kind (Err (Frame l k)) = ⊥
RefusesPins line kind (Err (Source node l k)) = ⊥
RefusesPins line kind (Err (Pins l k)) = (l ≡ line) × (k ≡ kind)

-- the frame of a text or its refusal
abbrev pub ReadsFrame : Framed → Result Given SystemError → Type 0
ReadsFrame framed (Ok given) = framed ≡ Whole given
ReadsFrame framed (Err (Frame line kind)) = framed ≡ Refused line kind
ReadsFrame framed (Err (Source node line kind)) = ⊥
ReadsFrame framed (Err (Pins line kind)) = ⊥
ReadsFrame framed (Err Memory) = Unit {0}

-- the frame of the lines that are still to be read, after what is given
abbrev pub frame_of_rest : Reading → Given → Framed
frame_of_rest lines given = frame_from (lines.number + 1) given (lines_of (bytes_left lines))

-- the frame that a line begins is that of the lines after it, or the line refuses it
abbrev pub ReadsLine : Framed → Framed → Result (Unit {0}) SystemError → Type 0
ReadsLine framed rest (Ok u) = framed ≡ rest
ReadsLine framed rest (Err (Frame line kind)) = framed ≡ Refused line kind
ReadsLine framed rest (Err (Source node line kind)) = ⊥
ReadsLine framed rest (Err (Pins line kind)) = ⊥
ReadsLine framed rest (Err Memory) = Unit {0}
