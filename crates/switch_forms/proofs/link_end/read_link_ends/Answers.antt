use Rattle.std.proofs.Common.{◌≡◌, ◌+◌, ℕ, false, List, [], ◌∷◌, ◌++◌, length, take, set, Ok, sym, subst, ◌∙◌, arith}
use Rattle.std.specs.Prelude.{slice_index_or}
use Rattle.std.proofs.lemmas.Result.{err_from_is_err_and}
use Rattle.std.proofs.lemmas.List.{length-set, length-take, take_all, take_more_set}
use Rattle.link_ends.specs.declared.state.EndState.{EndState}
use Rattle.byte_forms.specs.Forms.{Form, read_chain}
use Rattle.byte_forms.specs.Reading.{Refuses}
use Rattle.byte_forms.proofs.Lists.{reads_on, refuses_all, reads_all}
use Rattle.switch_forms.specs.Ends.{link_end}
use Rattle.switch_forms.proofs.link_end.read_link_ends.Goals as goal

pub returns-in_err-ends : goal.returns-in_err-ends
returns-in_err-ends c =
    let p = err_from_is_err_and c.from_residual.result c.from_residual.ensures.1 in
    let form : List EndState → Form EndState = λ before. link_end (slice_index_or c.args.there.now (length before) false) c.args.slot in
    let place : length (take c.loop-end.end c.loop-end.ends) ≡ c.loop-end.end = omega (arith, length-take c.loop-end.end c.loop-end.ends) in
    let refused = refuses_all form 8 c.loop-end.end (take c.loop-end.end c.loop-end.ends) c.loop-end.from c.args.from.now c.loop-end.invariant.so_far c.in_err-ends.field-0.0 (omega arith)
    (subst (λ (k : ℕ). Refuses (link_end (slice_index_or c.args.there.now k false) c.args.slot) c.loop-end.from c.in_err-ends.field-0.0) (sym place) c.in_err-ends.ensures.value) in
    rw (p.1, p.2) (record { value = refused })

pub loop-end-preserved : goal.loop-end-preserved
loop-end-preserved c =
    let form : List EndState → Form EndState = λ before. link_end (slice_index_or c.args.there.now (length before) false) c.args.slot in
    let x = c.in_ok-ends.field-0 in
    let place : length (take c.loop-end.end c.loop-end.ends) ≡ c.loop-end.end = omega (arith, length-take c.loop-end.end c.loop-end.ends) in
    let e : take (c.loop-end.end + 1) (set c.loop-end.ends c.loop-end.end x) ≡ take c.loop-end.end c.loop-end.ends ++ x ∷ [] = take_more_set c.loop-end.ends c.loop-end.end x (omega arith) in
    record {
      len = length-set c.loop-end.ends c.loop-end.end x ∙ c.loop-end.invariant.len;
      so_far = rw e (reads_on form 8 c.loop-end.end (take c.loop-end.end c.loop-end.ends) c.loop-end.from c.args.from.now c.loop-end.invariant.so_far x c.read_link_end.new.from (omega arith)
          (subst (λ (k : ℕ). (link_end (slice_index_or c.args.there.now k false) c.args.slot).read c.loop-end.from ≡ Ok (x, c.read_link_end.new.from)) (sym place) c.in_ok-ends.ensures.value));
    }

pub returns : goal.returns
returns c =
    let form : List EndState → Form EndState = λ before. link_end (slice_index_or c.args.there.now (length before) false) c.args.slot in
    let all = reads_all form 8 c.loop-end.end (take c.loop-end.end c.loop-end.ends) c.loop-end.from c.args.from.now c.loop-end.invariant.so_far (omega arith) in
    record {
      value = subst (λ (xs : List EndState). read_chain form 8 [] c.args.from.now ≡ Ok (xs, c.loop-end.from))
          (take_all c.loop-end.end c.loop-end.ends (omega arith)) all;
    }
