use Rattle.std.proofs.Common.{◌≡◌, ℕ, ◌<◌, ◌+◌, List, [], ◌∷◌, ◌++◌, length, take, set, Ok, subst, ◌∙◌, arith}
use Rattle.std.proofs.lemmas.Result.{err_from_is_err_and}
use Rattle.std.proofs.lemmas.List.{length-take, length-set, take_all, take_more_set}
use Rattle.single_port.specs.declared.state.PortState.{PortState}
use Rattle.byte_forms.specs.Forms.{read_chain}
use Rattle.byte_forms.specs.Reading.{Refuses}
use Rattle.byte_forms.proofs.Lists.{reads_on, refuses_all, reads_all}
use Rattle.port_forms.specs.Ports.{port, next_port, ports}
use Rattle.port_forms.proofs.port.read_ports.Goals as goal

-- the port that is read next
place : (p : ℕ) (states : List PortState) → length states ≡ 29 → p < 29 → p ≡ length (take p states)
place p states len lt = omega (arith, length-take p states, len, lt)

pub returns-in_err-states : goal.returns-in_err-states
unfolding ports
returns-in_err-states c =
    let e = err_from_is_err_and c.from_residual.result c.from_residual.ensures.1 in
    let p = c.loop-p.p in
    let states = c.loop-p.states in
    let here : Refuses (next_port (take p states)) c.loop-p.from c.in_err-states.field-0.0 =
    subst (λ (n : ℕ). Refuses (port n) c.loop-p.from c.in_err-states.field-0.0) (place p states c.loop-p.invariant.len (omega arith)) c.in_err-states.ensures.value in
    let refused = refuses_all next_port 29 p (take p states) c.loop-p.from c.args.from.now c.loop-p.invariant.so_far c.in_err-states.field-0.0 (omega arith) here in
    rw (e.1, e.2) (record { value = refused })

pub loop-p-preserved : goal.loop-p-preserved
loop-p-preserved c =
    let x = c.in_ok-states.field-0 in
    let p = c.loop-p.p in
    let states = c.loop-p.states in
    let e : take (p + 1) (set states p x) ≡ take p states ++ x ∷ [] = take_more_set states p x (omega arith) in
    let here : (next_port (take p states)).read c.loop-p.from ≡ Ok (x, c.read_port.new.from) =
    subst (λ (n : ℕ). (port n).read c.loop-p.from ≡ Ok (x, c.read_port.new.from)) (place p states c.loop-p.invariant.len (omega arith)) c.in_ok-states.ensures.value in
    record {
      len = length-set states p x ∙ c.loop-p.invariant.len;
      so_far = rw e (reads_on next_port 29 p (take p states) c.loop-p.from c.args.from.now c.loop-p.invariant.so_far x c.read_port.new.from (omega arith) here);
    }

pub returns : goal.returns
unfolding ports
returns c =
    let all = reads_all next_port 29 c.loop-p.p (take c.loop-p.p c.loop-p.states) c.loop-p.from c.args.from.now c.loop-p.invariant.so_far (omega arith) in
    record {
      value = subst (λ (xs : List PortState). read_chain next_port 29 [] c.args.from.now ≡ Ok (xs, c.loop-p.from))
          (take_all c.loop-p.p c.loop-p.states (omega arith)) all;
    }
