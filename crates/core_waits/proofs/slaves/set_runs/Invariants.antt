use Rattle.std.proofs.Common.{◌≡◌, length}
use Rattle.xs_base.specs.declared.numbers.TheConstants.{THREADS}
use Rattle.xs_model.specs.Masks.{members}
use Rattle.step_model.specs.ThreadRows.{with_runs}
use Rattle.core_waits.proofs.Members.{members_from}
use Rattle.core_waits.proofs.slaves.set_runs.Given as goal

-- with those of the mask from k on set too, all are
abbrev pub invariant-loop-k : goal.invariant-loop-k
invariant-loop-k l = record {
  eight : length l.threads ≡ THREADS;
  set : with_runs l.run (members_from l.slaves l.k) l.threads ≡ with_runs l.run (members l.slaves) l.fn.threads;
}
