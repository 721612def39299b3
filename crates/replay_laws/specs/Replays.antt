-- What `pinsof N` answers to what `wave SLOTS` wrote.
use Rattle.std.specs.Prelude.{ℕ, ◌≡◌, ◌≤◌, ◌<◌, ◌+◌, ◌==◌, true, Some, List, length, slice_index}
use Rattle.std.specs.List.{list_any}
use Rattle.xs_base.specs.Numbers.{Slot, Position, PortNumber}
use Rattle.xs_text.specs.Lines.{lines_of}
use Rattle.pin_scripts.specs.declared.line.PinLine.{PinLine}
use Rattle.pin_scripts.specs.Script.{NodeNumber, pin_at}
use Rattle.pin_scripts.specs.Pins.{Script, pins_of}
use Rattle.sys_plan.specs.Plan.{PlanRec, IsPlan, node_numbers}
use Rattle.system_model.specs.System.{Plan, system_of, longest_input}
use Rattle.wave_model.specs.Runs.{level_after}
use Rattle.answer_model.specs.declared.Answer.{Answer}
use Rattle.answer_model.specs.declared.Form.TheVariants.{Wave, PinsOf}
use Rattle.answer_model.specs.declared.Status.TheVariants.{Done}
use Rattle.answer_model.specs.Forms.{form_of_words}
use Rattle.answer_model.specs.Top.{answer}

-- the answer is a script of the node at a position, which tells the levels of its pins in a run of a plan for so many slots
pub record IsReplay (plan : PlanRec) (slots : Slot) (n : Position) (a : Answer) : Type 0 where
  pub done : a.status ≡ Done
  -- by every system that has the node the text is taken, and as this script
  pub script : List PinLine
  pub taken : (numbers : List NodeNumber) → list_any (λ number. number == slice_index (node_numbers plan) n) numbers ≡ true →
      pins_of numbers (lines_of a.text) ≡ Script script
  pub levels : (port : PortNumber) (slot : Slot) → port < 29 → slot < slots →
      pin_at script (slice_index (node_numbers plan) n) port slot ≡ level_after plan (slot + 1) n port

abbrev pub WavesAreReadAgain : Type 0
WavesAreReadAgain =
    (wave_words pins_words : List (List ℕ)) (input : List ℕ) (slots : Slot) (plan : PlanRec) (n : Position)
    → form_of_words wave_words ≡ Some (Wave slots) → system_of input ≡ Plan plan → IsPlan plan → n < length plan.nodes
    → form_of_words pins_words ≡ Some (PinsOf (slice_index (node_numbers plan) n))
    → length (answer wave_words input).text ≤ longest_input
    → IsReplay plan slots n (answer pins_words (answer wave_words input).text)
