use Rattle.std.proofs.Common.{◌≡◌, ◌+◌, length}
use Rattle.xs_base.specs.declared.numbers.TheConstants.{THREADS}
use Rattle.run_counts.specs.Tallies.{HasPlaces}
use Rattle.run_counts.proofs.Threads.{char, place, AreShownTo, AreCountedTo}
use Rattle.run_counts.proofs.nodes.NodeCounts.count_threads.Given as goal

abbrev pub invariant-loop-k : goal.invariant-loop-k
invariant-loop-k l = record {
  threads : AreShownTo (char l.run.plan l.slot l.n l.node) l.k l.initial.self.threads l.self.threads;
  rows : length l.self.threads ≡ THREADS;
  places : AreCountedTo (place l.run.plan l.slot l.n l.node) (char l.run.plan l.slot l.n l.node) l.k l.initial.self.places l.self.places;
  long : HasPlaces l.self.places (length l.node.image.code + 1);
  links : l.self.links ≡ l.initial.self.links;
}
