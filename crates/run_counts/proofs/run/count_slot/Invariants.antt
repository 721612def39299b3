use Rattle.std.proofs.Common.{◌≡◌, ◌+◌, length}
use Rattle.run_counts.specs.Counted.{IsCounted}
use Rattle.run_counts.proofs.Each.{EachTo, EachFrom}
use Rattle.run_counts.proofs.run.count_slot.Given as goal

abbrev pub invariant-loop-n : goal.invariant-loop-n
invariant-loop-n l = record {
  long : length l.all ≡ length l.initial.all;
  done : EachTo (IsCounted l.run.plan (l.slot + 1)) l.run.plan.nodes l.all l.n;
  rest : EachFrom (IsCounted l.run.plan l.slot) l.run.plan.nodes l.all l.n;
}
