use Rattle.std.proofs.Common.{arith}
use Rattle.std.proofs.lemmas.List.Elements.{recursion_from_All}
use Rattle.range_laws.specs.Ranges.{IsRunnable}
use Rattle.range_laws.proofs.runnable.nodes_are_runnable.Goals as goal

pub returns : goal.returns
returns c = record {
  all = recursion_from_All IsRunnable c.args.nodes.now (λ k d lt. c.loop-node.invariant k d (omega arith) (omega (arith, lt)));
}
