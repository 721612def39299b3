use Rattle.std.proofs.Common.{◌≡◌, ◌+◌, ◌*◌, ◌^◌, ◌≤◌}
use Rattle.std.specs.Prelude.{sum_by}
use Rattle.std.specs.List.{range_with_len}
use Rattle.serial_model.specs.Serial.{serial}
use Rattle.trace_model.specs.Trace.{tokens_sent, credits_sent, history_at}
use Rattle.made_text.proofs.Sums.{sum_left}
use Rattle.made_text.proofs.totals.all_sent.Given as goal

abbrev pub invariant-loop-link : goal.invariant-loop-link
invariant-loop-link l =
    let system = serial l.finished.plan l.finished.limit in
    (l.tokens + sum_left (λ k. tokens_sent (history_at system k)) l.link l.links ≡ sum_by (λ k. tokens_sent (history_at system k)) (range_with_len 0 l.links))
    × (l.credits + sum_left (λ k. credits_sent (history_at system k)) l.link l.links ≡ sum_by (λ k. credits_sent (history_at system k)) (range_with_len 0 l.links))
    × (l.tokens ≤ l.link * 2 ^ 64) × (l.credits ≤ l.link * 2 ^ 64)
