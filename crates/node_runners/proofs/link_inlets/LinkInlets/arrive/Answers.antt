use Rattle.std.proofs.Common.{map, sym, ap, ◌∙◌, subst}
use Rattle.core_step.specs.Core.{NothingArrives}
use Rattle.node_runners.specs.Queue.{LinkInletsRec, AllWait, after_slot, arrivals_by}
use Rattle.node_runners.proofs.Gathers.{nothing-arrives}
use Rattle.node_runners.proofs.Nearest.{nothing_comes, nothing_leaves}
use Rattle.node_runners.proofs.link_inlets.LinkInlets.arrive.Goals as goal

pub returns-then-slot-self : goal.returns-then-slot-self
returns-then-slot-self c =
    let slot = c.args.slot in
    let i = c.self.inside in
    let kept = c.self.invariant in
    let ends = ap (λ (x : LinkInletsRec). x.ends) c.self.view_is in
    let wait = subst (AllWait slot) (sym ends) c.requires.waits in
    record {
      arrives = kept.is_nothing ∙ sym (nothing_comes slot slot i.next c.if-slot-self.true i.ends.items wait kept.until) ∙ ap (arrivals_by slot) ends;
      nothing = λ _. subst NothingArrives (sym kept.is_nothing) nothing-arrives;
      left = sym (nothing_leaves slot slot i.next c.if-slot-self.true i.ends.items wait kept.until) ∙ ap (map (after_slot slot)) ends;
    }
