use Rattle.std.proofs.Common.{◌<◌, length, rules}
use Rattle.std.proofs.lemmas.List.Sorted.{answers_always, All-permutation, IsNonDecreasingBy-from_sort}
use Rattle.xs_model.specs.Events.{IsWithinCounts}
use Rattle.trace_model.specs.EventOrder.{Placed}
use Rattle.trace_model.proofs.SlotOrder.{in_order-merged}
use Rattle.trace_merge.specs.Nodes.{events_of}
use Rattle.trace_merge.proofs.Stable.{slot_of, sorted-in_order}
use Rattle.trace_merge.proofs.order.merge.Goals as goal

pub invariant_of-result : goal.invariant_of-result
invariant_of-result c =
    All-permutation (λ (e : Placed). IsWithinCounts e.1) _ _ c.sort_by_key.ensures.permutation c.in_ok-events.ensures.within

pub returns-clause-in_order : goal.returns-clause-in_order
returns-clause-in_order c =
    let keys = answers_always _ _ _ (λ f a r next called. search rules) in
    sorted-in_order (events_of c.args.nodes.now) _ _ c.in_ok-events.ensures.all
    (IsNonDecreasingBy-from_sort slot_of _ (c.in_ok-sort_by_key.ensures.sorted slot_of keys)) (c.sort_by_key.ensures.stable slot_of keys)

pub returns-clause-order : goal.returns-clause-order
returns-clause-order c = in_order-merged (events_of c.args.nodes.now) _ (returns-clause-in_order c)

pub returns-clause-positions : goal.returns-clause-positions
returns-clause-positions c =
    All-permutation (λ (e : Placed). e.0 < length c.args.nodes.now) _ _ c.sort_by_key.ensures.permutation c.in_ok-events.ensures.positions
