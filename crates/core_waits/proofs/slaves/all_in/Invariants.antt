use Rattle.std.proofs.Common.{◌≡◌}
use Rattle.std.specs.Prelude.{slice_index_or}
use Rattle.std.specs.List.{list_all}
use Rattle.xs_model.specs.Threads.{fresh_thread}
use Rattle.xs_model.specs.Masks.{members}
use Rattle.xs_model.specs.Waits.{is_in}
use Rattle.core_waits.proofs.Members.{members_from}
use Rattle.core_waits.proofs.slaves.all_in.Given as goal

-- those of the mask below k are in
abbrev pub invariant-loop-k : goal.invariant-loop-k
invariant-loop-k l = list_all (λ j. is_in (slice_index_or l.threads j fresh_thread).run) (members l.slaves) ≡ list_all (λ j. is_in (slice_index_or l.threads j fresh_thread).run) (members_from l.slaves l.k)
