use Rattle.std.proofs.Common.{arith}
use Rattle.core_step.proofs.Shown.{all_shown, driven_at, many_ports, states_drive}
use Rattle.core_step.proofs.pin_levels.shown_with.Goals as goal

pub returns : goal.returns
returns c = λ all is.
    let many = many_ports c.args.ports.now all (omega (arith, c.told-ports)) is in
    all_shown c.loop-p.p (driven_at c.args.ports.now) c.args.outside.now c.loop-p.levels all
    (omega (arith, c.loop-p-test.false)) many (omega (arith, c.told-outside)) c.loop-p.invariant (states_drive c.args.ports.now all many is)
