use Rattle.std.proofs.Common.{◌≡◌}
use Rattle.std.specs.Prelude.{drop}
use Rattle.std.specs.List.{list_any}
use Rattle.xs_model.specs.Waits.{pauses_on}
use Rattle.core_waits.proofs.places.is_paused_on.Given as goal

-- nobody among the threads before this one is paused on the resource
abbrev pub invariant-loop-thread : goal.invariant-loop-thread
invariant-loop-thread l = list_any (λ th. pauses_on l.resource th.run) l.threads ≡ list_any (λ th. pauses_on l.resource th.run) (drop l.thread-index l.threads)
