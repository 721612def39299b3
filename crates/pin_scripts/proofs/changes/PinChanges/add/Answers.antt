use Rattle.std.proofs.Common.{◌≡◌, ◌++◌, ◌∷◌, [], subst, sym, arith}
use Rattle.std.proofs.lemmas.Grind.{common_steps}
use Rattle.pin_scripts.specs.Facts.{slot_of_change}
use Rattle.pin_scripts.specs.Script.{NeverFall}
use Rattle.pin_scripts.proofs.Slots.{push}
use Rattle.pin_scripts.proofs.changes.PinChanges.add.Goals as goal

pub invariant_of-self-2 : goal.invariant_of-self-2
invariant_of-self-2 c =
    let same : c.self.inside.changes.items ≡ c.args.self.now = cc in
    let items : c.push.new.self.items ≡ c.args.self.now ++ c.args.change ∷ [] = grind (arith, common_steps) in
    subst (NeverFall slot_of_change 0) (sym items)
    (push slot_of_change 0 c.args.self.now c.args.change (subst (NeverFall slot_of_change 0) same c.self.invariant) c.requires (omega arith))
