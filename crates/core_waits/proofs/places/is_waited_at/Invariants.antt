use Rattle.std.proofs.Common.{◌≡◌}
use Rattle.std.specs.Prelude.{drop}
use Rattle.std.specs.List.{list_any}
use Rattle.xs_model.specs.Waits.{waits_at}
use Rattle.core_waits.proofs.places.is_waited_at.Given as goal

-- nobody among the threads before this one is paused there
abbrev pub invariant-loop-thread : goal.invariant-loop-thread
invariant-loop-thread l = list_any (λ th. waits_at l.thing th.run) l.threads ≡ list_any (λ th. waits_at l.thing th.run) (drop l.thread-index l.threads)
