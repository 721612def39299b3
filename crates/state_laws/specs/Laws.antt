-- That a node has them as it starts, and that each slot keeps them.
use Rattle.std.specs.Prelude.{ℕ, ◌≡◌, ◌+◌, List, length}
use Rattle.xs_base.specs.Numbers.{Slot}
use Rattle.xs_base.specs.declared.numbers.TheConstants.{LINK_ENDS}
use Rattle.xs_model.specs.declared.outside.Arrivals.{Arrivals}
use Rattle.xs_model.specs.declared.outside.PinView.{PinView}
use Rattle.xs_model.specs.Record.{NodeRec}
use Rattle.xs_model.specs.Outside.{LevelsFit}
use Rattle.sys_plan.specs.declared.NodePlan.{NodePlan}
use Rattle.step_model.specs.Fixed.{Fixed}
use Rattle.step_model.specs.Start.{node_of}
use Rattle.step_model.specs.Step.{node_step}
use Rattle.core_step.specs.States.{node_state, IsNodeState, IsStateBefore}
use Rattle.state_laws.specs.Facts.{MayBeKept, IsPlanned}

-- a node as it starts is so, whatever its image, ways, networks and gaps
abbrev pub IsSoAtFirst : (NodeRec → Type 0) → Type 0
IsSoAtFirst IsSo = (plan : NodePlan) (gaps : List ℕ) → IsSo (node_of plan gaps)

-- the same of what speaks of the gaps of eight link ends
abbrev pub IsSoAtFirstWith : (List ℕ → NodeRec → Type 0) → Type 0
IsSoAtFirstWith IsSo = (plan : NodePlan) (gaps : List ℕ) → length gaps ≡ LINK_ENDS → IsSo gaps (node_of plan gaps)

-- a slot of a node that is so before it leaves it so, whatever code it runs and whatever comes to it
abbrev pub StaysSo : (Slot → NodeRec → Type 0) → Type 0
StaysSo IsSo = (fixed : Fixed) (rec : NodeRec) (slot : Slot) (arrivals : Arrivals) (pins : PinView) →
    IsSo slot rec → IsSo (slot + 1) (node_step fixed rec slot arrivals pins).rec

-- the same of what speaks of the gaps of its link ends
abbrev pub StaysSoWith : (List ℕ → Slot → NodeRec → Type 0) → Type 0
StaysSoWith IsSo = (fixed : Fixed) (rec : NodeRec) (slot : Slot) (arrivals : Arrivals) (pins : PinView) →
    IsSo fixed.routes.gaps slot rec → IsSo fixed.routes.gaps (slot + 1) (node_step fixed rec slot arrivals pins).rec

-- the same where its plan is as every plan is, and each pin shows from outside what its port's width allows
abbrev pub StaysSoAsPlanned : (List ℕ → Slot → NodeRec → Type 0) → Type 0
StaysSoAsPlanned IsSo = (fixed : Fixed) (rec : NodeRec) (slot : Slot) (arrivals : Arrivals) (pins : PinView) →
    IsPlanned fixed → LevelsFit pins.level →
    IsSo fixed.routes.gaps slot rec → IsSo fixed.routes.gaps (slot + 1) (node_step fixed rec slot arrivals pins).rec

-- what a snapshot keeps of such a node says what may be so of one, and no slot in it is after the slots that were
pub record SaysWhatMayBe (gaps : List ℕ) (slot : Slot) (rec : NodeRec) : Type 0 where
  pub state : IsNodeState gaps (node_state rec)
  pub before : IsStateBefore slot (node_state rec)

abbrev pub KeptMayBeRead : Type 0
KeptMayBeRead = (gaps : List ℕ) (slot : Slot) (rec : NodeRec) → MayBeKept gaps slot rec → SaysWhatMayBe gaps slot rec
