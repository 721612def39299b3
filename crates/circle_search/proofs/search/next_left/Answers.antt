use Rattle.std.proofs.Common.{ap, sym, ◌∙◌}
use Rattle.std.specs.Prelude.{unwrap_or, find}
use Rattle.circle_search.specs.Circles.{is_left}
use Rattle.circle_search.proofs.Steps.{awaited_at, awaited_past}
use Rattle.circle_search.proofs.search.next_left.Goals as goal

pub returns-in-Some : goal.returns-in-Some
returns-in-Some c =
    let edges = c.in-Some.ensures.lookup.3 in
    let here = awaited_at c.args.graph.now c.args.vertex c.in-Some.edges.now edges.0 (edges.1 c.in-Some.edges.now) in
    record {
      value =
          c.unwrap_or.ensures
          ∙ ap (λ o. unwrap_or o 0) (c.first_left.ensures.value ∙ ap (find (is_left c.args.left.now)) (c.as_slice.ensures.value ∙ sym here));
    }

pub returns-in-None : goal.returns-in-None
returns-in-None c = record { value = ap (λ edges. unwrap_or (find (is_left c.args.left.now) edges) 0) (sym (awaited_past c.args.graph.now c.args.vertex c.in-None.ensures.lookup.3)) }
