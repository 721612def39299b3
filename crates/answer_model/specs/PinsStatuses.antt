-- By which statuses `pinsof N` answers: exactly by what its input is.
use Rattle.std.specs.Prelude.{ℕ, ◌≡◌, ◌↔◌, ◌<◌, ◌≤◌, Some, List, length}
use Rattle.pin_scripts.specs.Script.{NodeNumber}
use Rattle.system_model.specs.System.{longest_input}
use Rattle.wave_model.specs.Reads.{NodePins, Pins, Refused, pins_of}
use Rattle.answer_model.specs.declared.Form.TheVariants.{PinsOf}
use Rattle.answer_model.specs.declared.Status.{Status}
use Rattle.answer_model.specs.declared.Status.TheVariants.{Done, SystemFault, SourceFault, ScriptFault}
use Rattle.answer_model.specs.Forms.{form_of_words}
use Rattle.answer_model.specs.Top.{answer}

-- it is a wave text that is not too long, and its wave has the node
abbrev pub GivesScript : List ℕ → NodePins → Type 0
GivesScript input (Pins text) = length input ≤ longest_input
GivesScript input (Refused line kind) = ⊥

-- it is too long, no wave text, or its wave has no such node
abbrev pub IsWaveRefusal : List ℕ → NodePins → Type 0
IsWaveRefusal input (Pins text) = longest_input < length input
IsWaveRefusal input (Refused line kind) = Unit {0}

abbrev pub NeverOfPins : List ℕ → NodePins → Type 0
NeverOfPins input pins = ⊥

-- to words of the form, this status is answered exactly where what the input gives the node is of this kind
abbrev pub TellsPins : Status → (List ℕ → NodePins → Type 0) → Type 0
TellsPins wanted IsOfKind =
    (words : List (List ℕ)) (input : List ℕ) (node : NodeNumber) → form_of_words words ≡ Some (PinsOf node)
    → ((answer words input).status ≡ wanted) ↔ IsOfKind input (pins_of input node)

pub record PinsStatuses : Type 0 where
  pub done : TellsPins Done GivesScript
  pub system_fault : TellsPins SystemFault IsWaveRefusal
  -- nothing runs, and no system is read, so neither of these comes
  pub source_fault : TellsPins SourceFault NeverOfPins
  pub script_fault : TellsPins ScriptFault NeverOfPins
