use Rattle.std.proofs.Common.{◌≡◌, ◌+◌, List, [], ◌∷◌, ◌++◌, take, set, Ok, subst, ◌∙◌, arith}
use Rattle.std.proofs.lemmas.Result.{err_from_is_err_and}
use Rattle.std.proofs.lemmas.List.{length-set, take_all, take_more_set}
use Rattle.switch_routes.specs.declared.state.InputState.{InputState}
use Rattle.byte_forms.specs.Forms.{Form, read_chain}
use Rattle.byte_forms.proofs.Lists.{reads_on, refuses_all, reads_all}
use Rattle.switch_forms.specs.Inputs.{input}
use Rattle.switch_forms.proofs.input.read_inputs.Goals as goal

pub returns-in_err-states : goal.returns-in_err-states
returns-in_err-states c =
    let p = err_from_is_err_and c.from_residual.result c.from_residual.ensures.1 in
    let form : List InputState → Form InputState = λ before. input c.args.used.now c.args.there.now before in
    let refused = refuses_all form 40 c.loop-at.at (take c.loop-at.at c.loop-at.states) c.loop-at.from c.args.from.now c.loop-at.invariant.so_far c.in_err-states.field-0.0 (omega arith)
    c.in_err-states.ensures.value in
    rw (p.1, p.2) (record { value = refused })

pub loop-at-preserved : goal.loop-at-preserved
loop-at-preserved c =
    let form : List InputState → Form InputState = λ before. input c.args.used.now c.args.there.now before in
    let x = c.in_ok-states.field-0 in
    let e : take (c.loop-at.at + 1) (set c.loop-at.states c.loop-at.at x) ≡ take c.loop-at.at c.loop-at.states ++ x ∷ [] = take_more_set c.loop-at.states c.loop-at.at x (omega arith) in
    record {
      len = length-set c.loop-at.states c.loop-at.at x ∙ c.loop-at.invariant.len;
      so_far = rw e (reads_on form 40 c.loop-at.at (take c.loop-at.at c.loop-at.states) c.loop-at.from c.args.from.now c.loop-at.invariant.so_far x c.read_input.new.from (omega arith)
          c.in_ok-states.ensures.value);
    }

pub returns : goal.returns
returns c =
    let form : List InputState → Form InputState = λ before. input c.args.used.now c.args.there.now before in
    let all = reads_all form 40 c.loop-at.at (take c.loop-at.at c.loop-at.states) c.loop-at.from c.args.from.now c.loop-at.invariant.so_far (omega arith) in
    record {
      value = subst (λ (xs : List InputState). read_chain form 40 [] c.args.from.now ≡ Ok (xs, c.loop-at.from))
          (take_all c.loop-at.at c.loop-at.states (omega arith)) all;
    }
