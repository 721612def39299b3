use Rattle.std.proofs.Common.{◌∙◌, ◌-◌, ◌+◌, sym, arith}
use Rattle.rank_model.specs.Next.{link_count}
use Rattle.rank_model.specs.Verdicts.{no_rank_between}
use Rattle.route_ranks.proofs.Searches.{none_found, found_later, found_here, is_none_then}
use Rattle.route_ranks.proofs.no_rank.no_rank_after.Goals as goal

pub returns-then-is_some : goal.returns-then-is_some
returns-then-is_some c =
    let n = c.loop-second.second in
    let find = no_rank_between c.args.plan.now c.args.ranks.now c.args.first in
    let count = link_count c.args.plan.now in
    let some = sym c.is_some.ensures ∙ c.if-is_some.true in
    let here = found_here find n (count - n) (count - (n + 1)) (omega arith) c.no_rank_between-found.result c.no_rank_between-found.ensures.value some in
    record { value = here ∙ sym c.loop-second.invariant }

pub loop-second-preserved : goal.loop-second-preserved
loop-second-preserved c =
    let n = c.loop-second.second in
    let find = no_rank_between c.args.plan.now c.args.ranks.now c.args.first in
    let count = link_count c.args.plan.now in
    let none = sym c.no_rank_between-found.ensures.value ∙ is_none_then c.no_rank_between-found.result (sym c.is_some.ensures ∙ c.if-is_some.false) in
    c.loop-second.invariant ∙ found_later find n (count - n) (count - (n + 1)) (omega arith) none

pub returns : goal.returns
returns c =
    let n = c.loop-second.second in
    let find = no_rank_between c.args.plan.now c.args.ranks.now c.args.first in
    record { value = sym (c.loop-second.invariant ∙ none_found find n (link_count c.args.plan.now - n) (omega arith)) }
