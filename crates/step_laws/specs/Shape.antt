-- How many events a slot of a node makes at most, and what they name.
use Rattle.std.specs.Prelude.{ℕ, ◌≡◌, ◌<◌, ◌≤◌, Option, List, length}
use Rattle.std.specs.List.{All, AllByRecursion}
use Rattle.xs_base.specs.Numbers.{Slot, Word}
use Rattle.xs_base.specs.declared.numbers.TheConstants.{PORTS, CHAN_ENDS, THREADS}
use Rattle.xs_model.specs.declared.outside.Arrivals.{Arrivals}
use Rattle.xs_model.specs.declared.outside.PinView.{PinView}
use Rattle.xs_model.specs.Record.{NodeRec, InputRec, Local, LinkRec, first_core, node_with}
use Rattle.xs_model.specs.Events.{IsWithinCounts}
use Rattle.step_model.specs.Fixed.{Fixed}
use Rattle.step_model.specs.Step.{node_step}

-- an input of the switch that holds a channel end holds one that every core has
abbrev pub HoldsWhatIsThere : InputRec → Type 0
HoldsWhatIsThere (Local chan) = chan < CHAN_ENDS
HoldsWhatIsThere _ = Unit {0}

-- what a node has as many of as every node has, as far as its events name it
pub record HasShape (rec : NodeRec) : Type 0 where
  pub ports : length rec.core.ports ≡ PORTS
  -- one thread has one last issue
  pub threads : length rec.core.slots.last ≡ THREADS
  pub held : AllByRecursion HoldsWhatIsThere rec.inputs

-- so every node starts, whatever link ends it has, and so every slot leaves it
abbrev pub FirstHasShape : Type 0
FirstHasShape = (entry cp_at : Word) (memory : List ℕ) (links : List (Option LinkRec)) →
    HasShape (node_with (first_core entry cp_at memory) links)

abbrev pub SlotKeepsShape : Type 0
SlotKeepsShape = (fixed : Fixed) (rec : NodeRec) (slot : Slot) (arrivals : Arrivals) (pins : PinView) →
    HasShape rec → HasShape (node_step fixed rec slot arrivals pins).rec

-- one event for each of the 29 ports, one for each of the 40 inputs of the switch, and two for the issue
abbrev pub most_events : ℕ
most_events = 71

abbrev pub SlotMakesFewEvents : Type 0
SlotMakesFewEvents = (fixed : Fixed) (rec : NodeRec) (slot : Slot) (arrivals : Arrivals) (pins : PinView) →
    HasShape rec → length (node_step fixed rec slot arrivals pins).emitted.events ≤ most_events

-- the numbers in them are below their counts
abbrev pub SlotNamesWhatIsThere : Type 0
SlotNamesWhatIsThere = (fixed : Fixed) (rec : NodeRec) (slot : Slot) (arrivals : Arrivals) (pins : PinView) →
    HasShape rec → All IsWithinCounts (node_step fixed rec slot arrivals pins).emitted.events
