-- That the switch of every node of a run keeps tokens, in every slot.
use Rattle.std.specs.Prelude.{◌<◌, length}
use Rattle.xs_base.specs.Numbers.{Slot, Position, InputNumber}
use Rattle.xs_base.specs.declared.numbers.TheConstants.{INPUTS}
use Rattle.xs_model.specs.AtWork.{AtWork, slot_begins}
use Rattle.net_model.specs.Links.{arrive}
use Rattle.net_model.specs.Switch.{Routes, input_step, moves_from}
use Rattle.sys_plan.specs.declared.NodePlan.{NodePlan}
use Rattle.sys_plan.specs.Plan.{PlanRec, IsPlan, gaps_of}
use Rattle.step_model.specs.Start.{fixed_of}
use Rattle.step_model.specs.Step.{ports_step}
use Rattle.serial_model.specs.Serial.{serial, coming_at}
use Rattle.locality_laws.specs.Locality.{node_in}
use Rattle.packet_laws.specs.Flow.{IsSwitch, Steps}
use Rattle.state_laws.specs.Runs.{RunInRange}

-- a node at work when the first so many inputs of its switch have made their steps, and the step of the next one
abbrev pub StepsOf : Routes → Slot → AtWork → InputNumber → Type 0
StepsOf routes slot m i = let before = moves_from routes slot 0 i m in Steps routes slot i before (input_step routes slot i before)

-- the node at a position of a plan before a slot, and what its switch does in that slot, when what comes to it has arrived, by whatever ways
pub record KeepsTokens (plan : PlanRec) (slot : Slot) (n : Position) (node : NodePlan) : Type 0 where
  pub is_switch : IsSwitch (gaps_of plan n) (node_in (serial plan slot) n)
  pub steps : (i : InputNumber) → i < INPUTS →
      let coming = coming_at plan (serial plan slot).histories slot n in
      StepsOf (fixed_of node (gaps_of plan n)).routes slot (ports_step slot coming.pins (arrive slot coming.arrivals (slot_begins (node_in (serial plan slot) n)))) i

abbrev pub SwitchesOfRunsWork : Type 0
SwitchesOfRunsWork = (plan : PlanRec) (slot : Slot) (n : Position) (node : NodePlan) →
    IsPlan plan → RunInRange plan.nodes → n < length plan.nodes → KeepsTokens plan slot n node
