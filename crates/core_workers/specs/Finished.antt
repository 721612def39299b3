-- What contracts see of a run that has come to its limit.
use Rattle.std.specs.Prelude.{ℕ, ◌≡◌, ◌≢◌, Bool, true, false}
use Rattle.xs_base.specs.Numbers.{Slot}
use Rattle.sys_plan.specs.Plan.{PlanRec}
use Rattle.core_workers.specs.declared.way.Way.{Way}
use Rattle.core_workers.specs.declared.way.Way.TheVariants.{Workers, Serial, Rounds}

-- the plan, how many slots were run, the way in which the nodes were run, and how many rounds were made
pub record FinishedRec : Type 0 where
  pub plan : PlanRec
  pub limit : Slot
  pub way : Way
  pub rounds : ℕ

-- whether each node is run apart from the others
abbrev pub is_apart : Way → Bool
is_apart Workers = true
is_apart Serial = false
is_apart Rounds = true

-- a run of this way has so many rounds: none, unless it goes by rounds
abbrev pub HasRounds : Way → ℕ → Type 0
HasRounds way rounds = way ≢ Rounds → rounds ≡ 0
