use Rattle.std.proofs.Common.{◌<◌, subst}
use Rattle.std.specs.Prelude.{ℕ, All}
use Rattle.look_model.specs.WaitGraph.{wait_graph}
use Rattle.look_laws.proofs.circles_are_told.Goals as goal

pub returns : goal.returns
returns c = record {
  told = λ plan snaps circle. c.told_circles_are_circles.ensures.circles (wait_graph plan snaps) circle;
  least = λ plan snaps a rest. c.told_circles_are_circles.ensures.least (wait_graph plan snaps) a rest;
  some = λ plan snaps circle. c.circles_are_told.ensures (wait_graph plan snaps) circle;
  members = λ plan snaps circle kept is.
      subst (λ (many : ℕ). All (λ (v : ℕ). v < many) circle) (c.who_waits_stands_in_the_graph.ensures.vertices plan snaps kept)
      (c.told_circles_are_circles.ensures.vertices (wait_graph plan snaps) circle is);
}
