use Rattle.std.proofs.Common.{◌≡◌, ◌+◌, ◌*◌, ◌^◌, ◌≤◌, length}
use Rattle.std.specs.Prelude.{sum_by}
use Rattle.std.specs.List.{range_with_len}
use Rattle.serial_model.specs.Serial.{serial}
use Rattle.trace_model.specs.Trace.{events_at}
use Rattle.made_text.proofs.Sums.{sum_left}
use Rattle.made_text.proofs.totals.all_events.Given as goal

abbrev pub invariant-loop-node : goal.invariant-loop-node
invariant-loop-node l =
    let system = serial l.finished.plan l.finished.limit in
    (l.events + sum_left (λ k. length (events_at system k)) l.node l.nodes ≡ sum_by (λ k. length (events_at system k)) (range_with_len 0 l.nodes))
    × (l.events ≤ l.node * 2 ^ 65)
