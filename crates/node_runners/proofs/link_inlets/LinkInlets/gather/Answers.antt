use Rattle.std.proofs.Common.{◌≡◌, ℕ, List, map, fold, sym, ap, ◌∙◌, subst}
use Rattle.core_step.specs.Core.{NothingArrives}
use Rattle.node_runners.specs.Queue.{InletRec, LinkInletsRec, AllWait, AwaitsUntil, after_slot, arrivals_by, nearer_arrival}
use Rattle.node_runners.proofs.Gathers.{nothing-arrives}
use Rattle.node_runners.proofs.Nearest.{nothing_comes, nothing_leaves, nearest_awaits}
use Rattle.node_runners.proofs.link_inlets.LinkInlets.gather.Goals as goal

-- it is looked for in these link ends
awaits : (bound next : ℕ) (ends lent : List InletRec) → lent ≡ ends → next ≡ fold nearer_arrival bound lent → AwaitsUntil next ends
awaits bound next ends lent same is = subst (λ (xs : List InletRec). AwaitsUntil next xs) same (subst (λ t. AwaitsUntil t lent) (sym is) (nearest_awaits lent bound))

pub invariant_of-self : goal.invariant_of-self
invariant_of-self c = record {
  until = awaits 4294967295 c.nearest_arrival-next.result c.self.inside.ends.items c.deref.result.now c.deref.ensures.value c.nearest_arrival-next.ensures;
  is_nothing = c.self.invariant.is_nothing;
}

pub returns-then-slot-next : goal.returns-then-slot-next
returns-then-slot-next c =
    let slot = c.args.slot in
    let i = c.self.inside in
    let next = c.nearest_arrival-next.result in
    let ends = ap (λ (x : LinkInletsRec). x.ends) c.self.view_is in
    let wait = subst (AllWait slot) (sym ends) c.requires.waits in
    let until = awaits 4294967295 next i.ends.items c.deref.result.now c.deref.ensures.value c.nearest_arrival-next.ensures in
    record {
      arrives = c.self.invariant.is_nothing ∙ sym (nothing_comes slot slot next c.if-slot-next.true i.ends.items wait until) ∙ ap (arrivals_by slot) ends;
      nothing = λ _. subst NothingArrives (sym c.self.invariant.is_nothing) nothing-arrives;
      left = sym (nothing_leaves slot slot next c.if-slot-next.true i.ends.items wait until) ∙ ap (map (after_slot slot)) ends;
    }
