use Rattle.std.proofs.Common.{◌≡◌, ◌++◌, drop}
use Rattle.look_model.specs.Waits.{missing_from}
use Rattle.state_text.proofs.seen.missing.Given as goal

abbrev pub invariant-loop-k : goal.invariant-loop-k
invariant-loop-k l = l.missing.items ++ missing_from l.slaves l.k (drop l.k l.threads) ≡ missing_from l.slaves 0 l.threads
