use Rattle.std.proofs.Common.{◌≡◌}
use Rattle.xs_model.specs.Masks.{members}
use Rattle.xs_model.specs.Enabling.{without_threads}
use Rattle.core_waits.proofs.Members.{members_from}
use Rattle.core_waits.proofs.slaves.drop_threads.Given as goal

-- with those of the mask from k on dropped too, all are
abbrev pub invariant-loop-k : goal.invariant-loop-k
invariant-loop-k l = without_threads (members_from l.threads l.k) l.events ≡ without_threads (members l.threads) l.fn.events
