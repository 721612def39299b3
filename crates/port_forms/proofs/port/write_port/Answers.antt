use Rattle.std.proofs.Common.{true, ◌≡◌, ℕ, List, ◌++◌, Result, Ok, Err, append_assoc}
use Rattle.std.specs.Prelude.{OnOk}
use Rattle.port_forms.specs.Ports.{port, widths, trigger, condition, shift, transfer, strobe, tail}
use Rattle.port_forms.specs.Ports.{basics, basics_in, widths_in, trigger_in, shift_in, tail_in}
use Rattle.port_forms.proofs.port.write_port.Goals as goal

-- what was written one after the other
joined : (out a b c d e f b_out c_out d_out e_out f_out new : List ℕ)
    → b_out ≡ out ++ a → c_out ≡ b_out ++ b → d_out ≡ c_out ++ c → e_out ≡ d_out ++ d → f_out ≡ e_out ++ e → new ≡ f_out ++ f → new ≡ out ++ (a ++ (b ++ (c ++ (d ++ (e ++ f)))))
joined out a b c d e f b_out c_out d_out e_out f_out new e1 e2 e3 e4 e5 e6 = rw (e6, e5, e4, e3, e2, e1) (simp append_assoc)

on_ok : {T E P Q : Type 0} (r : Result T E) → (P → Q) → OnOk r P → OnOk r Q
on_ok (Ok x) f p = f p
on_ok (Err e) f p = p

pub returns : goal.returns
unfolding port widths trigger condition shift transfer strobe tail
returns c =
    let s = c.args.state.now in
    record {
      value = λ p. on_ok c.write_tail.result
          (joined c.args.out.now (basics.write (basics_in s)) ((widths 0 true).write (widths_in s)) ((trigger true).write (trigger_in s))
          ((shift 0 true 0).write (shift_in s)) ((transfer 0 true 0).write s.tr) ((tail 0 true).write (tail_in s))
          c.write_basics.new.out c.write_widths.new.out c.write_trigger.new.out c.write_shift.new.out c.write_transfer.new.out c.write_tail.new.out
          c.in_ok-write_basics.ensures.value c.in_ok-write_widths.ensures.value c.in_ok-write_trigger.ensures.value c.in_ok-write_shift.ensures.value
          c.in_ok-write_transfer.ensures.value)
          c.write_tail.ensures.value;
    }
