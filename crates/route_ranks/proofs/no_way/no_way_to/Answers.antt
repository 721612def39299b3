use Rattle.std.proofs.Common.{ℕ, ◌∙◌, ◌-◌, ◌+◌, sym, arith}
use Rattle.rank_model.specs.Verdicts.{no_way_in}
use Rattle.route_ranks.proofs.Searches.{none_found, found_later, found_here, is_none_then}
use Rattle.route_ranks.proofs.no_way.no_way_to.Goals as goal

pub returns-then-is_some : goal.returns-then-is_some
returns-then-is_some c =
    let n = c.loop-net.net in
    let count : ℕ = 4 in
    let some = sym c.is_some.ensures ∙ c.if-is_some.true in
    let here = found_here (no_way_in c.args.plan.now c.args.from c.args.to) n (count - n) (count - (n + 1)) (omega arith) c.no_way_in-found.result c.no_way_in-found.ensures.value some in
    record { value = here ∙ sym c.loop-net.invariant }

pub loop-net-preserved : goal.loop-net-preserved
loop-net-preserved c =
    let n = c.loop-net.net in
    let count : ℕ = 4 in
    let none = sym c.no_way_in-found.ensures.value ∙ is_none_then c.no_way_in-found.result (sym c.is_some.ensures ∙ c.if-is_some.false) in
    c.loop-net.invariant ∙ found_later (no_way_in c.args.plan.now c.args.from c.args.to) n (count - n) (count - (n + 1)) (omega arith) none

pub returns : goal.returns
returns c =
    let n = c.loop-net.net in
    record { value = sym (c.loop-net.invariant ∙ none_found (no_way_in c.args.plan.now c.args.from c.args.to) n (4 - n) (omega arith)) }
