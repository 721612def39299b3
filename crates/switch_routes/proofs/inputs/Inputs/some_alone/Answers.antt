use Rattle.std.proofs.Common.{◌≤◌, length, refl, arith}
use Rattle.std.specs.Int.{w64}
use Rattle.xs_model.specs.Record.{Idle}
use Rattle.quiet_model.specs.Still.{acts_alone}
use Rattle.chan_ends.proofs.Marked.{any_marked}
use Rattle.switch_routes.specs.Inputs.{states_in}
use Rattle.switch_routes.proofs.Marks.{length-states}
use Rattle.switch_routes.proofs.inputs.Inputs.some_alone.Goals as goal

pub returns : goal.returns
returns c =
    let states = states_in c.self.inside.states in
    let fits : length states ≤ 64 = omega (arith, length-states c.self.inside.states, c.self.invariant.count) in
    record { value = rw (← c.self.view_is) (any_marked acts_alone Idle w64 c.self.inside.alone states fits c.self.invariant.marked (omega arith) refl) }
