use Rattle.std.proofs.Common.{◌≡◌, ℕ, List, length, get_or, ap, subst, arith}
use Rattle.pin_scripts.specs.Facts.{NodeChangesRec, same_slot}
use Rattle.pin_scripts.specs.Script.{NeverFall}
use Rattle.pin_scripts.proofs.Slots.{next-none, next-some}
use Rattle.pin_scripts.proofs.node_changes.NodeChanges.next_after.Goals as goal

pub returns-then-until-len : goal.returns-then-until-len
returns-then-until-len c =
    let slots = c.args.self.now.slots in
    let next = c.index.result.now in
    let until = c.count_until-until.result in
    let same : c.self.inside.slots.items ≡ slots = ap (λ (n : NodeChangesRec). n.slots) c.self.view_is in
    let item : next ≡ get_or slots until next = subst (λ (xs : List ℕ). next ≡ get_or xs until next) same cc in
    let count : c.len.result ≡ length slots = subst (λ (xs : List ℕ). c.len.result ≡ length xs) same cc in
    next-some slots c.args.slot next until (subst (NeverFall same_slot 0) same c.self.invariant.1) c.count_until-until.ensures.value (omega (arith, count)) item

pub returns-else-until-len : goal.returns-else-until-len
returns-else-until-len c =
    let slots = c.args.self.now.slots in
    let count : c.len.result ≡ length slots = cc in
    next-none slots c.args.slot c.count_until-until.result c.count_until-until.ensures.value (omega (arith, count))
