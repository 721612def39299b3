use Rattle.std.proofs.Common.{◌≡◌, length, take}
use Rattle.std.specs.Prelude.{map}
use Rattle.switch_routes.specs.States.{input_state}
use Rattle.switch_routes.proofs.inputs.Inputs.states.Given as goal

-- those of the inputs below this one stand in their places
abbrev pub invariant-loop-input : goal.invariant-loop-input
invariant-loop-input l = record {
  long : length l.states ≡ 40;
  done : take l.input l.states ≡ map input_state (take l.input l.self);
}
