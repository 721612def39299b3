use Rattle.std.proofs.Common.{◌∙◌, ap, arith}
use Rattle.xs_model.specs.Record.{Idle}
use Rattle.switch_routes.specs.Inputs.{states_in}
use Rattle.quiet_model.specs.Still.{acts_alone}
use Rattle.switch_routes.proofs.Marks.{past, length-states}
use Rattle.switch_routes.proofs.inputs.Inputs.alone.Goals as goal

pub returns-clause-above : goal.returns-clause-above
returns-clause-above c =
    λ i from h.
    let states = c.self.inside.states in
    c.self.invariant.marked i h ∙ ap acts_alone (past (states_in states) i Idle (omega (arith, from, length-states states, c.self.invariant.count)))
