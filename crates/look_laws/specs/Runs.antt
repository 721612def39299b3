-- That the laws of what was kept hold of every run.
use Rattle.xs_base.specs.Numbers.{Slot}
use Rattle.sys_plan.specs.Plan.{PlanRec, IsPlan}
use Rattle.snap_model.specs.Saved.{saved_at}
use Rattle.range_laws.specs.Ranges.{AreRunnable}
use Rattle.look_laws.specs.Kept.{AreKept}

-- before every slot all nodes of a plan are kept whole
abbrev pub RunsAreKept : Type 0
RunsAreKept = (plan : PlanRec) (slot : Slot) → IsPlan plan → AreRunnable plan.nodes → AreKept plan (saved_at plan slot).nodes
