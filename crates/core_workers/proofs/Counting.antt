-- How many slots a node has stepped.
use Rattle.std.proofs.Common.{◌≡◌, sym, ◌∙◌}
use Rattle.busy_slots.specs.Busy.{busy_count}
use Rattle.node_runners.specs.Runner.{RunnerRec}
use Rattle.core_workers.specs.Worker.{HasSteppedBusy}

-- what stays the same of it
pub busy_by : (a b : RunnerRec) → b.plan ≡ a.plan → b.node ≡ a.node → b.clock ≡ a.clock → b.stepped ≡ a.stepped → HasSteppedBusy a → HasSteppedBusy b
busy_by a b plan node clock stepped busy = stepped ∙ busy ∙ sym (λ i. busy_count (plan i) (node i) (clock i))
