use Rattle.std.proofs.Common.{◌≡◌, ◌++◌}
use Rattle.profile_text.specs.Counted.{threads_by}
use Rattle.profile_text.proofs.threads.append_threads.Given as goal

abbrev pub invariant-loop-k : goal.invariant-loop-k
invariant-loop-k l = l.out ≡ l.initial.out ++ threads_by l.node l.slots l.counts l.k
