use Rattle.std.proofs.Common.{◌≡◌, List, ap, sym, ◌∙◌, arith}
use Rattle.xs_base.specs.Numbers.{Word}
use Rattle.xs_model.specs.declared.outside.PinView.{PinView}
use Rattle.pin_wires.specs.Wires.{levels_over}
use Rattle.node_seats.proofs.Wired.{nothing-over}
use Rattle.node_seats.proofs.pins.put_over.Goals as goal

pub returns-else-wired-ne0-clause-view : goal.returns-else-wired-ne0-clause-view
returns-else-wired-ne0-clause-view c =
    let view = c.args.view.now in
    let none : c.args.wired ≡ 0 = omega (arith, c.if-wired-ne0.false) in
    ap (λ (levels : List Word). record { level = levels }) (sym (nothing-over c.args.levels.now view.level c.requires.all))
    ∙ ap (λ wired. record { level = levels_over wired c.args.levels.now view.level }) (sym none)
