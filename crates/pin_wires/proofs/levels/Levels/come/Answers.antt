use Rattle.pin_wires.proofs.Fit.{set-fits}
use Rattle.pin_wires.proofs.levels.Levels.come.Goals as goal

pub invariant_of-self : goal.invariant_of-self
invariant_of-self c = set-fits c.self.inside.last c.args.port c.args.value c.requires.width c.self.invariant

pub returns-clause-fit : goal.returns-clause-fit
returns-clause-fit c = set-fits c.self.inside.last c.args.port c.args.value c.requires.width c.self.invariant
