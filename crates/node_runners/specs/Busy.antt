-- How many slots a node that runs ahead has stepped, where it goes over quiet slots at once.
use Rattle.std.specs.Prelude.{◌≡◌, ◌≤◌}
use Rattle.busy_slots.specs.Busy.{busy_count}
use Rattle.node_runners.specs.Runner.{RunnerRec}

-- a node has stepped as many slots as are busy below its clock
abbrev pub HasSteppedBusy : RunnerRec → Type 0
HasSteppedBusy runner = runner.stepped ≡ busy_count runner.plan runner.node runner.clock

-- it has run on: nothing else of it changed
pub record RunsOn (before now : RunnerRec) : Type 0 where
  pub rest : now ≡ record before { clock = now.clock; stepped = now.stepped }
  pub on : before.clock ≤ now.clock
  pub busy : HasSteppedBusy now
