use Rattle.std.proofs.Common.{arith, refl}
use Rattle.core_step.proofs.Shown.{all_shown, driven_by}
use Rattle.core_step.proofs.pin_levels.driven_over.Goals as goal

pub returns : goal.returns
returns c =
    let ports = c.args.units.now.ports in
    all_shown c.loop-p.p (driven_by ports) c.args.outside.now c.loop-p.levels ports
    (omega (arith, c.loop-p-test.false)) c.keeps.ensures.whole.ports (omega (arith, c.told-outside)) c.loop-p.invariant (λ k h. refl)
