use Rattle.std.proofs.Common.{◌∙◌, length, ap, arith}
use Rattle.std.proofs.lemmas.List.{length-set}
use Rattle.std.proofs.lemmas.List.Elements.{All-from_recursion}
use Rattle.made_lists.proofs.Filled.{filled_all}
use Rattle.switch_routes.specs.Inputs.{state_of}
use Rattle.switch_routes.specs.States.{input_of, IsInputState}
use Rattle.switch_routes.proofs.States.{placed_more}
use Rattle.switch_routes.proofs.inputs.Inputs.of_states.Goals as goal

pub said_by-requires : goal.said_by-requires
said_by-requires c = record { facts = All-from_recursion IsInputState c.args.states.now c.requires.facts c.loop-input.input _ (omega arith) }

pub loop-input-preserved : goal.loop-input-preserved
loop-input-preserved c = record {
  long =
      ap length c.set.ensures.value ∙ length-set c.loop-input.inputs c.loop-input.input (state_of c.said_by.result) ∙ c.loop-input.invariant.long;
  done =
      rw c.set.ensures.value (placed_more input_of c.args.states.now c.loop-input.inputs c.loop-input.input _ (state_of c.said_by.result) (omega arith) (omega arith) c.said_by.ensures.value c.loop-input.invariant.done);
}

pub returns : goal.returns
returns c = record {
  value = filled_all input_of c.args.states.now c.loop-input.inputs c.loop-input.input (omega arith) (omega arith) c.loop-input.invariant.done;
}
