use Rattle.std.proofs.Common.{◌≤◌, List, fold, sym, ap, ◌∙◌, subst}
use Rattle.quiet_model.specs.Slots.{IsFirst}
use Rattle.node_runners.specs.Queue.{InletRec, LinkInletsRec, nearer_arrival, some_arrive}
use Rattle.node_runners.proofs.Nearest.{nearest_is_first, nearest_within}
use Rattle.node_runners.proofs.link_inlets.LinkInlets.first_arrival.Goals as goal

pub returns : goal.returns
returns c =
    let bound = c.args.bound in
    let ends = c.args.self.now.ends in
    let is = c.nearest_arrival.ensures ∙ ap (λ (xs : List InletRec). fold nearer_arrival bound xs) (c.deref.ensures.value ∙ ap (λ (x : LinkInletsRec). x.ends) c.self.view_is) in
    record {
      first = λ from on wait. subst (λ r. IsFirst (some_arrive ends) from bound r) (sym is) (nearest_is_first ends c.requires.few bound from wait);
      within = subst (λ r. r ≤ bound) (sym is) (nearest_within ends bound);
    }
