use Rattle.std.proofs.Common.{◌≡◌, length, take}
use Rattle.std.specs.Prelude.{map}
use Rattle.switch_routes.specs.States.{input_of}
use Rattle.switch_routes.proofs.inputs.Inputs.of_states.Given as goal

-- the inputs below this one stand in their places
abbrev pub invariant-loop-input : goal.invariant-loop-input
invariant-loop-input l = record {
  long : length l.inputs ≡ 40;
  done : take l.input l.inputs ≡ map input_of (take l.input l.states);
}
