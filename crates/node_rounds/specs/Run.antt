-- What contracts see of a run that goes round by round.
use Rattle.std.specs.Prelude.{ℕ}
use Rattle.xs_base.specs.Numbers.{Slot}
use Rattle.sys_plan.specs.Plan.{PlanRec}

-- the plan, how many slots the run is to have, and how many passes were made: each node's clock is the one after as many rounds
pub record RoundRunRec : Type 0 where
  pub plan : PlanRec
  pub limit : Slot
  pub passes : ℕ
