use Rattle.std.proofs.Common.{◌≡◌}
use Rattle.run_counts.specs.Counted.{AreCounted}
use Rattle.run_counts.proofs.run.count_run.Given as goal

abbrev pub invariant-loop-slot : goal.invariant-loop-slot
invariant-loop-slot l = record {
  plan : l.run.plan ≡ l.plan;
  now : l.run.now ≡ l.slot;
  counted : AreCounted l.plan l.slot l.all.items;
}
