-- A node in a slot of the serial machine: what it is before it and after it, and who issues.
use Rattle.std.specs.Prelude.{◌+◌, Bool, Option}
use Rattle.xs_base.specs.Numbers.{Slot, Position}
use Rattle.xs_model.specs.Record.{CoreRec, NodeRec}
use Rattle.step_model.specs.Start.{fixed_of}
use Rattle.step_model.specs.Step.{node_step}
use Rattle.sys_plan.specs.declared.NodePlan.{NodePlan}
use Rattle.sys_plan.specs.Plan.{PlanRec, gaps_of}
use Rattle.serial_model.specs.Serial.{coming_at, node_by, serial}
use Rattle.processor.specs.declared.picks.NextIssue.{NextIssue}
use Rattle.processor.specs.NextIssue.{next_issue}
use Rattle.core_step.specs.Told.{core_to_issue, has_trap}

-- the node before the slot, its core right before the issue, and the node after the slot; who issues and what that takes, and whether it traps
pub record Seen : Type 0 where
  pub before : NodeRec
  pub to_issue : CoreRec
  pub after : NodeRec
  pub issue : Option NextIssue
  pub traps : Bool

-- the node at a position of a serial machine after so many slots
abbrev pub node_after : PlanRec → Slot → Position → NodeRec
node_after plan slots n = node_by (serial plan slots).nodes n

-- of the node of a plan at a position
abbrev pub seen_at : PlanRec → Slot → Position → NodePlan → Seen
seen_at plan slot n node =
    let fixed = fixed_of node (gaps_of plan n) in
    let rec = node_after plan slot n in
    let coming = coming_at plan (serial plan slot).histories slot n in
    let core = core_to_issue fixed rec slot coming.arrivals coming.pins in
    record {
      before = rec;
      to_issue = core;
      after = node_after plan (slot + 1) n;
      issue = next_issue core slot;
      traps = has_trap (node_step fixed rec slot coming.arrivals coming.pins).emitted.events;
    }
