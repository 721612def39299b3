use Rattle.std.proofs.Common.{◌≡◌, ◌+◌, ◌-◌, arith, eqb, false, drop, length, [], ◌++◌, ◌∷◌, subst, ap, sym, ◌∙◌}
use Rattle.std.specs.Prelude.{IfOk}
use Rattle.std.specs.List.{list_any, position_or_len}
use Rattle.circle_search.specs.Circles.{circle_on, from_vertex}
use Rattle.circle_search.proofs.Steps.{lists_of, skipped, comes_back, all_made, one_step}
use Rattle.circle_search.proofs.search.circle_on.Goals as goal
use Rattle.circle_search.proofs.search.circle_on.Goals.{else-walk-test, then-walk-test+then-contains}

pub walk-preserved : goal.walk-preserved
walk-preserved c =
    let graph = lists_of c.args.graph.now in
    let left = c.args.left.now in
    let count = length c.args.graph.now in
    let row = c.walk.row.items in
    let away : list_any (λ x. eqb x c.walk.vertex) row ≡ false = ap (list_any (λ x. eqb x c.walk.vertex)) (sym c.deref.ensures.value) ∙ sym c.contains.ensures.value ∙ c.if-contains.false in
    ap (λ r. circle_on graph left (count - (c.walk.index + 1)) r c.next_left-vertex.result) c.in_ok-push.ensures.items
    ∙ ap (λ w. circle_on graph left (count - (c.walk.index + 1)) (row ++ c.walk.vertex ∷ []) w) c.next_left-vertex.ensures.value
    ∙ sym (one_step graph left count c.walk.index row c.walk.vertex c.walk-test.true away)
    ∙ c.walk.invariant

pub returns : goal.returns
returns c =
    let graph = lists_of c.args.graph.now in
    let left = c.args.left.now in
    let count = length c.args.graph.now in
    let row = c.walk.row.items in
    let ends : circle_on graph left (count - c.walk.index) row c.walk.vertex ≡ from_vertex c.walk.vertex row =
    elim c.walk-test.branch [
      | else-walk-test w ↦ all_made graph left (count - c.walk.index) row c.walk.vertex (omega (arith, w.walk-test.false))
      | then-walk-test+then-contains w ↦ comes_back graph left (count - c.walk.index) row c.walk.vertex
          (ap (list_any (λ x. eqb x c.walk.vertex)) (sym w.deref.ensures.value) ∙ sym w.contains.ensures.value ∙ w.if-contains.true)
    ]
    in
    record {
      value = subst (λ rows. IfOk c.from_vertex.result (λ rest. rest.items ≡ rows))
          (ap (λ r. drop (position_or_len (λ x. eqb x c.walk.vertex) r) r) c.as_slice.ensures.value ∙ skipped c.walk.vertex row ∙ sym ends ∙ c.walk.invariant)
          c.from_vertex.ensures.value;
    }
