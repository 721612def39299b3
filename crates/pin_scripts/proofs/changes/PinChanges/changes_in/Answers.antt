use Rattle.std.proofs.Common.{◌≡◌, ◌-◌, length, get_or, subst, arith}
use Rattle.pin_scripts.specs.Facts.{slot_of_change}
use Rattle.pin_scripts.specs.Script.{NeverFall}
use Rattle.pin_scripts.proofs.Slots.{last-tells}
use Rattle.pin_scripts.proofs.changes.PinChanges.changes_in.Goals as goal

pub returns-then-count-gt0 : goal.returns-then-count-gt0
returns-then-count-gt0 c =
    let last = c.index.result.now in
    let same : c.self.inside.changes.items ≡ c.args.self.now = cc in
    let count : c.len-count.result ≡ length c.args.self.now = cc in
    let item : last ≡ get_or c.args.self.now (length c.args.self.now - 1) last = cc in
    last-tells slot_of_change c.args.self.now c.args.slot last (subst (NeverFall slot_of_change 0) same c.self.invariant) c.requires (omega (arith, count)) item
