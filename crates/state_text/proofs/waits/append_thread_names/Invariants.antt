use Rattle.std.proofs.Common.{◌≡◌, ◌++◌, take}
use Rattle.look_model.specs.Waits.{thread_names}
use Rattle.state_text.proofs.waits.append_thread_names.Given as goal

abbrev pub invariant-loop-k : goal.invariant-loop-k
invariant-loop-k l = l.out ≡ l.initial.out ++ thread_names (take l.k-index l.threads)
