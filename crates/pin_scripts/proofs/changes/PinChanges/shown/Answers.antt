use Rattle.std.proofs.Common.{◌≡◌, ◌-◌, ◌∙◌, get_or, ap, arith, subst, sym}
use Rattle.pin_scripts.specs.declared.line.Change.{Change}
use Rattle.pin_scripts.specs.Facts.{IsCountUntil, slot_of_change}
use Rattle.pin_scripts.proofs.Slots.{shown-last, shown-none}
use Rattle.pin_scripts.proofs.changes.PinChanges.shown.Goals as goal

pub returns-else-until-eq0 : goal.returns-else-until-eq0
returns-else-until-eq0 c =
    let last = c.index.result.now in
    let item : last ≡ get_or c.args.self.now (c.count_until-until.result - 1) last = cc in
    ap (λ (x : Change). x.value) item
    ∙ shown-last c.args.self.now c.args.slot c.count_until-until.result last c.count_until-until.ensures.value c.count_until-until.ensures.within (omega arith)

pub returns-then-until-eq0 : goal.returns-then-until-eq0
returns-then-until-eq0 c = sym (shown-none c.args.self.now c.args.slot (subst (IsCountUntil slot_of_change c.args.slot c.args.self.now) (omega arith) c.count_until-until.ensures.value))
