use Rattle.std.proofs.Common.{ap, ◌∙◌}
use Rattle.circle_search.specs.Circles.{peeled}
use Rattle.circle_search.proofs.Steps.{lists_of, no_round, peeled_lists, one_round}
use Rattle.circle_search.proofs.search.left_at_last.Goals as goal

pub rounds-init : goal.rounds-init
rounds-init c = c.in_ok-left.ensures.items_if_clones_equal (λ y same. same) ∙ no_round c.args.graph.now

pub rounds-preserved : goal.rounds-preserved
rounds-preserved c =
    c.in_ok-left-2.ensures.value
    ∙ peeled_lists c.args.graph.now c.as_slice.result.now
    ∙ ap (peeled (lists_of c.args.graph.now)) (c.as_slice.ensures.value ∙ c.rounds.invariant)
    ∙ one_round (lists_of c.args.graph.now) c.rounds.index
