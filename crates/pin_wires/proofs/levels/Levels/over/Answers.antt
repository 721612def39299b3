use Rattle.std.proofs.Common.{◌≡◌, List, length, sym, subst, ap, ◌∙◌, arith}
use Rattle.xs_base.specs.Numbers.{Word}
use Rattle.xs_model.specs.Outside.{LevelsFit}
use Rattle.pin_wires.specs.Wires.{levels_over}
use Rattle.pin_wires.proofs.Over.{all-over, over-fits}
use Rattle.pin_wires.proofs.levels.Levels.over.Goals as goal

pub returns-clause-levels : goal.returns-clause-levels
returns-clause-levels c =
    let script : length c.args.view.now.level ≡ 29 = cc in
    all-over c.args.wired c.self.inside.last c.args.view.now.level c.loop-port.port c.loop-port.view.level (omega (arith, c.loop-port-test.false)) script c.loop-port.invariant
    ∙ ap (λ (came : List Word). levels_over c.args.wired came c.args.view.now.level) c.self.view_is

pub returns-clause-fit : goal.returns-clause-fit
returns-clause-fit c script-fits =
    let script : length c.args.view.now.level ≡ 29 = cc in
    subst LevelsFit (sym (returns-clause-levels c)) (
    subst (λ (came : List Word). LevelsFit (levels_over c.args.wired came c.args.view.now.level)) c.self.view_is
    (over-fits c.args.wired c.self.inside.last c.args.view.now.level c.self.told script c.self.invariant script-fits)
    )
