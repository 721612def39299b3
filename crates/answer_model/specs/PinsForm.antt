-- The form `pinsof N`: of the wave text that is read, the pin script of a node is written. Nothing runs.
use Rattle.std.specs.Prelude.{ℕ, nat_lt, if◌then◌else◌, List, [], ◌∷◌, ◌++◌, length, codes, decimal}
use Rattle.pin_scripts.specs.Script.{NodeNumber}
use Rattle.system_model.specs.declared.SysKind.TheVariants.{TooLong}
use Rattle.system_model.specs.System.{longest_input}
use Rattle.wave_model.specs.declared.wave_kind.WaveKind.{WaveKind}
use Rattle.wave_model.specs.declared.wave_kind.WaveKind.TheVariants.{BadLine, NoSuchNode}
use Rattle.wave_model.specs.Reads.{NodePins, Pins, Refused, pins_of}
use Rattle.answer_model.specs.declared.Answer.{Answer}
use Rattle.answer_model.specs.declared.Status.TheVariants as status
use Rattle.answer_model.specs.Refusals.{frame_text}

abbrev pub text_of_wave_kind : WaveKind → List ℕ
text_of_wave_kind BadLine = codes "V1 bad line"
text_of_wave_kind NoSuchNode = codes "V2 no such node"

-- `wave line L: KIND TEXT`
abbrev pub wave_fault_text : ℕ → WaveKind → List ℕ
wave_fault_text line kind = codes "wave line " ++ (decimal line ++ (codes ": " ++ (text_of_wave_kind kind ++ (10 ∷ []))))

-- the script, or the line that refuses the wave text
abbrev pub answer_to_pins : NodePins → Answer
answer_to_pins (Pins text) = record { text = text; status = status.Done }
answer_to_pins (Refused line kind) = record { text = wave_fault_text line kind; status = status.SystemFault }

-- a wave text that is too long is refused as a system text is
abbrev pub too_long : Answer
too_long = record { text = frame_text 0 TooLong; status = status.SystemFault }

abbrev pub pins_answer : NodeNumber → List ℕ → Answer
pins_answer node input = if nat_lt longest_input (length input) then too_long else answer_to_pins (pins_of input node)
