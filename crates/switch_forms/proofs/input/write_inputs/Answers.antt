use Rattle.std.proofs.Common.{◌+◌, List, [], ◌++◌, get_or, take, drop}
use Rattle.std.proofs.lemmas.List.{take_more, drop_more, drop_all}
use Rattle.switch_routes.specs.declared.state.InputState.{InputState}
use Rattle.switch_routes.specs.declared.state.InputState.TheVariants.{Idle}
use Rattle.byte_forms.specs.Forms.{Form, write_chain}
use Rattle.byte_forms.proofs.Lists.{writes_on, writes_all}
use Rattle.switch_forms.specs.Inputs.{input}
use Rattle.switch_forms.proofs.input.write_inputs.Goals as goal

pub loop-state-preserved : goal.loop-state-preserved
loop-state-preserved c = λ used there.
    let form : List InputState → Form InputState = input used there in
    let xs = c.args.states.now in
    let i = c.loop-state.state-index in
    let so_far = rw (drop_more xs i Idle c.loop-state-test.true) at c.loop-state.invariant used there in
    rw (c.in_ok-write_input.ensures.value used there (take i xs), take_more xs i Idle c.loop-state-test.true)
    (writes_on form c.loop-state.out (take i xs) (get_or xs i Idle) (drop (i + 1) xs) (c.args.out.now ++ write_chain form [] xs) so_far)

pub returns : goal.returns
returns c =
    let xs = c.args.states.now in
    let i = c.loop-state.state-index in
    record {
      value = λ used there.
          let form : List InputState → Form InputState = input used there in
          let so_far = rw (drop_all i xs c.loop-state-test.false) at c.loop-state.invariant used there in
          writes_all form c.loop-state.out (take i xs) (c.args.out.now ++ write_chain form [] xs) so_far;
    }
