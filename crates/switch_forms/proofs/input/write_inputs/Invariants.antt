use Rattle.std.proofs.Common.{◌≡◌, ◌++◌, Bool, List, [], take, drop}
use Rattle.byte_forms.specs.Forms.{write_chain}
use Rattle.switch_forms.specs.Inputs.{input}
use Rattle.switch_forms.proofs.input.write_inputs.Given as goal

abbrev pub invariant-loop-state : goal.invariant-loop-state
invariant-loop-state l =
    (used there : List Bool) → l.out ++ write_chain (input used there) (take l.state-index l.states) (drop l.state-index l.states) ≡ l.fn.out ++ write_chain (input used there) [] l.states
