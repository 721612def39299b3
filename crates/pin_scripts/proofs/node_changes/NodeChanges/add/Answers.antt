use Rattle.std.proofs.Common.{◌≡◌, ◌++◌, ◌∷◌, [], ◌∙◌, subst, sym, arith, length-set}
use Rattle.std.proofs.lemmas.Grind.{common_steps}
use Rattle.pin_scripts.specs.Facts.{same_slot}
use Rattle.pin_scripts.specs.Script.{NeverFall}
use Rattle.pin_scripts.proofs.Slots.{push}
use Rattle.pin_scripts.proofs.node_changes.NodeChanges.add.Goals as goal

pub invariant_of-self-2 : goal.invariant_of-self-2
invariant_of-self-2 c =
    let same : c.self.inside.slots.items ≡ c.args.self.now.slots = cc in
    let items : c.push.new.self.items ≡ c.args.self.now.slots ++ c.args.change.slot ∷ [] = grind (arith, common_steps) in (
      length-set _ _ _ ∙ c.self.invariant.0,
      subst (NeverFall same_slot 0) (sym items)
          (push same_slot 0 c.args.self.now.slots c.args.change.slot (subst (NeverFall same_slot 0) same c.self.invariant.1) c.requires.slots (omega arith)),
    )
