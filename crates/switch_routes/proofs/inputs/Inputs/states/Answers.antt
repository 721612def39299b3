use Rattle.std.proofs.Common.{◌∙◌, arith}
use Rattle.std.proofs.lemmas.List.{length-set}
use Rattle.made_lists.proofs.Filled.{filled_all}
use Rattle.switch_routes.specs.Inputs.{states_in}
use Rattle.switch_routes.specs.States.{input_state}
use Rattle.switch_routes.proofs.Marks.{length-states}
use Rattle.switch_routes.proofs.States.{kept_more}
use Rattle.switch_routes.proofs.inputs.Inputs.states.Goals as goal

pub loop-input-preserved : goal.loop-input-preserved
loop-input-preserved c = record {
  long = length-set c.loop-input.states c.loop-input.input c.kept_of.result ∙ c.loop-input.invariant.long;
  done =
      rw (← c.self.view_is) (kept_more c.self.inside.states c.loop-input.states c.loop-input.input _ c.kept_of.result (omega (arith, c.self.invariant.count)) (omega arith) c.kept_of.ensures.value (rw (← c.self.view_is) at c.loop-input.invariant.done));
}

pub returns : goal.returns
returns c = record {
  value =
      rw (← c.self.view_is) (filled_all input_state (states_in c.self.inside.states) c.loop-input.states c.loop-input.input (omega (arith, length-states c.self.inside.states, c.self.invariant.count)) (omega arith) (rw (← c.self.view_is) at c.loop-input.invariant.done));
}
