use Rattle.std.proofs.Common.{◌≡◌, length}
use Rattle.run_counts.specs.Tallies.{IsNothing}
use Rattle.run_counts.proofs.Each.{EachTo}
use Rattle.run_counts.proofs.run.no_counts.Given as goal

abbrev pub invariant-loop-node : goal.invariant-loop-node
invariant-loop-node l = record {
  long : length l.all.items ≡ l.node-index;
  each : EachTo (λ m. IsNothing) l.nodes l.all.items l.node-index;
}
