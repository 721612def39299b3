use Rattle.std.proofs.Common.{Some, None, length, [], arith, ap, sym, ◌∙◌}
use Rattle.circle_search.specs.Circles.{circle_on, from_least}
use Rattle.circle_search.proofs.Steps.{lists_of, told_among, some_told, start_within}
use Rattle.circle_search.proofs.search.circle.Goals as goal

pub returns-in-None : goal.returns-in-None
returns-in-None c = record { value = told_among c.args.graph.now c.as_slice.result.now None (c.as_slice.ensures.value ∙ c.in_ok-left.ensures.value) c.in-None.ensures.value }

pub overflow_cast-start : goal.overflow_cast-start
overflow_cast-start c =
    let within = start_within c.args.graph.now c.as_slice.result.now c.in-Some.start (c.as_slice.ensures.value ∙ c.in_ok-left.ensures.value) c.in-Some.ensures.value in
    omega (arith, within, c.requires.few)

pub returns : goal.returns
returns c =
    let graph = c.args.graph.now in
    let left = c.as_slice.result.now in
    let same = c.as_slice-in-Some.ensures.value ∙ sym c.as_slice.ensures.value in
    record {
      value =
          ap Some (c.from_least.ensures.value ∙ ap from_least (c.in_ok-row-in-Some.ensures.value ∙ ap (λ l. circle_on (lists_of graph) l (length graph) [] c.in-Some.start) same))
          ∙ some_told graph left c.in-Some.start
          ∙ told_among graph left (Some c.in-Some.start) (c.as_slice.ensures.value ∙ c.in_ok-left.ensures.value) c.in-Some.ensures.value;
    }
