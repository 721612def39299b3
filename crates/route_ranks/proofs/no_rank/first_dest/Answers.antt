use Rattle.std.proofs.Common.{◌+◌, ◌∙◌, sym, arith}
use Rattle.std.specs.Prelude.{slice_index_or}
use Rattle.rank_model.specs.Verdicts.{goes_on}
use Rattle.route_ranks.specs.Nearest.{nearest, or_lesser}
use Rattle.route_ranks.proofs.Dests.{elsewhere}
use Rattle.route_ranks.proofs.Least.{least_none, least_next}
use Rattle.route_ranks.proofs.Links.{id_there}
use Rattle.route_ranks.proofs.FirstDest.{first_near_ids}
use Rattle.route_ranks.proofs.no_rank.first_dest.Goals as goal

pub returns-then-route-link_route : goal.returns-then-route-link_route
returns-then-route-link_route c = record {
  value = sym (elsewhere c.args.plan.now c.args.first c.args.second (λ same. c.if-route-link_route.true (c.link_route-route.ensures.route.to ∙ same ∙ sym c.link_route.ensures.route.from)));
}

pub loop-bit-init : goal.loop-bit-init
loop-bit-init c = sym (least_none (goes_on c.args.plan.now c.args.first c.args.second) _ _)

pub loop-bit-preserved : goal.loop-bit-preserved
loop-bit-preserved c =
    let test = goes_on c.args.plan.now c.args.first c.args.second in
    let from = (slice_index_or c.nodes.result.now c.link_route-route.result.from c.index-nodes-route.result).id in
    let to = (slice_index_or c.nodes-2.result.now c.link_route-route.result.to c.index-nodes-route-2.result).id in
    let bit = c.loop-bit.bit in
    c.or_lesser-found-in-loop-bit.ensures.value
    ∙ (λ i. or_lesser test (c.or_lesser-found.ensures.value i) (c.nearest-in-loop-bit.ensures.value i))
    ∙ (λ i. or_lesser test (or_lesser test (c.loop-bit.invariant i) (c.nearest.ensures.value i)) (nearest to bit))
    ∙ sym (least_next test from to (bit + 1) bit (omega arith))

pub returns : goal.returns
returns c =
    let plan = c.args.plan.now in
    let leads = c.link_route-route.result in
    let route = c.link_route-route.ensures.route in
    let from = id_there plan c.nodes.result.now c.nodes.ensures.value leads.from c.index-nodes-route.result route.from_there c.index-nodes-route.is _ route.from in
    let to = id_there plan c.nodes-2.result.now c.nodes-2.ensures.value leads.to c.index-nodes-route-2.result route.to_there c.index-nodes-route-2.is _ route.to in
    record { value = c.loop-bit.invariant ∙ sym (first_near_ids plan c.args.first c.args.second _ _ c.loop-bit.bit from to (omega arith) (omega arith) (omega arith)) }
