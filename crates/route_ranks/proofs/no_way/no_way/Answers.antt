use Rattle.std.proofs.Common.{◌∙◌, ◌-◌, ◌+◌, sym, arith, length}
use Rattle.rank_model.specs.Verdicts.{no_way_from}
use Rattle.route_ranks.proofs.Searches.{none_found, found_later, found_here, is_none_then}
use Rattle.route_ranks.proofs.no_way.no_way.Goals as goal

pub returns-then-is_some : goal.returns-then-is_some
returns-then-is_some c =
    let n = c.loop-from.from in
    let count = length c.args.plan.now.nodes in
    let some = sym c.is_some.ensures ∙ c.if-is_some.true in
    let here = found_here (no_way_from c.args.plan.now) n (count - n) (count - (n + 1)) (omega arith) c.no_way_from-found.result c.no_way_from-found.ensures.value some in
    record { value = here ∙ sym c.loop-from.invariant }

pub loop-from-preserved : goal.loop-from-preserved
loop-from-preserved c =
    let n = c.loop-from.from in
    let count = length c.args.plan.now.nodes in
    let none = sym c.no_way_from-found.ensures.value ∙ is_none_then c.no_way_from-found.result (sym c.is_some.ensures ∙ c.if-is_some.false) in
    c.loop-from.invariant ∙ found_later (no_way_from c.args.plan.now) n (count - n) (count - (n + 1)) (omega arith) none

pub returns : goal.returns
returns c =
    let n = c.loop-from.from in
    record { value = sym (c.loop-from.invariant ∙ none_found (no_way_from c.args.plan.now) n (length c.args.plan.now.nodes - n) (omega arith)) }
