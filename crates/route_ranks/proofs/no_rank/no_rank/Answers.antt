use Rattle.std.proofs.Common.{◌∙◌, ◌-◌, ◌+◌, sym, arith}
use Rattle.rank_model.specs.Next.{link_count}
use Rattle.rank_model.specs.Verdicts.{no_rank_after}
use Rattle.route_ranks.proofs.Searches.{none_found, found_later, found_here, is_none_then}
use Rattle.route_ranks.proofs.no_rank.no_rank.Goals as goal

pub returns-then-is_some : goal.returns-then-is_some
returns-then-is_some c =
    let n = c.loop-first.first in
    let count = link_count c.args.plan.now in
    let some = sym c.is_some.ensures ∙ c.if-is_some.true in
    let here = found_here (no_rank_after c.args.plan.now c.args.ranks.now) n (count - n) (count - (n + 1)) (omega arith) c.no_rank_after-found.result c.no_rank_after-found.ensures.value some in
    record { value = here ∙ sym c.loop-first.invariant }

pub loop-first-preserved : goal.loop-first-preserved
loop-first-preserved c =
    let n = c.loop-first.first in
    let count = link_count c.args.plan.now in
    let none = sym c.no_rank_after-found.ensures.value ∙ is_none_then c.no_rank_after-found.result (sym c.is_some.ensures ∙ c.if-is_some.false) in
    c.loop-first.invariant ∙ found_later (no_rank_after c.args.plan.now c.args.ranks.now) n (count - n) (count - (n + 1)) (omega arith) none

pub returns : goal.returns
returns c =
    let n = c.loop-first.first in
    record { value = sym (c.loop-first.invariant ∙ none_found (no_rank_after c.args.plan.now c.args.ranks.now) n (link_count c.args.plan.now - n) (omega arith)) }
