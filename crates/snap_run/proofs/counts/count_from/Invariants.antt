use Rattle.std.proofs.Common.{◌≡◌, ◌+◌, ◌≤◌, take}
use Rattle.trace_model.specs.Trace.{tokens_sent, credits_sent}
use Rattle.snap_model.specs.Rest.{sent_from}
use Rattle.snap_run.proofs.counts.count_from.Given as goal

abbrev pub invariant-loop-e : goal.invariant-loop-e
invariant-loop-e l = record {
  tokens : l.tokens ≡ tokens_sent (sent_from l.slot (take l.e-index l.history));
  credits : l.credits ≡ credits_sent (sent_from l.slot (take l.e-index l.history));
  bound : l.tokens + l.credits ≤ l.e-index;
}
