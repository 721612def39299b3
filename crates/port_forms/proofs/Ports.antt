-- The laws of ports.
use Rattle.std.proofs.Common.{◌≡◌, ◌≢◌, ℕ, zero, suc, ◌+◌, ◌-◌, ◌%◌, ◌<◌, ◌^◌, Bool, true, false, IsTrue, eqb, ltb, ◌∷◌, length, Option, Some, None, is_some}
use Rattle.std.proofs.Common.{refl, sym, ap, subst, arith, inl, inr}
use Rattle.std.proofs.Math.Nat.{mod-eq_of_lt}
use Rattle.std.proofs.lemmas.Bool.{cases_Bool, eqb-true, eqb-false, ne_eqb, ltb-true}
use Rattle.xs_base.specs.Ids.{port_width}
use Rattle.xs_model.specs.declared.clock.Clock.{Clock}
use Rattle.xs_model.specs.declared.clock.Clock.TheVariants.{Reference, Block}
use Rattle.single_port.specs.declared.state.Condition.{Condition}
use Rattle.single_port.specs.declared.state.Condition.TheVariants as conditions
use Rattle.single_port.specs.declared.state.Transfer.{Transfer}
use Rattle.byte_forms.specs.Forms.{Form, half, flag_of, byte_of_flag, option_of, flag_and_value}
use Rattle.byte_forms.specs.Laws.{Lawful}
use Rattle.byte_forms.proofs.Fields.{byte-lawful, half-lawful, word-lawful}
use Rattle.byte_forms.proofs.Parts.{where-lawful, both-lawful, seen-lawful, below-lawful, flag-lawful}
use Rattle.byte_forms.proofs.Lists.{chain-lawful}
use Rattle.port_forms.specs.Ports.{low_byte, limit_where, flag_where, option_where, are_beats, clock_of, clock_number, clock, basics_of, basics_parts, basics}
use Rattle.port_forms.specs.Ports.{is_tw, widths_of, widths_parts, widths, condition_of, condition_number, condition, trigger_of, trigger_parts, trigger}
use Rattle.port_forms.specs.Ports.{sr_limit, is_count, shift_of, shift_parts, shift, are_bits, transfer_of, transfer_parts, transfer}
use Rattle.port_forms.specs.Ports.{is_strobe, strobe_of, strobe_number, strobe, tail_of, tail_parts, tail, port_of, port_parts, port, ports}

-- ---- Fields

low_byte-lawful : Lawful low_byte
low_byte-lawful = record {
  found = λ bytes n rest fit e.
      let t = byte-lawful.found bytes n rest fit e in
      let same : n % 256 ≡ n = mod-eq_of_lt t.1 in
      (subst (λ (b : ℕ). bytes ≡ b ∷ rest) (sym same) t.0, t.1);
  again = λ n rest h.
      let same : n % 256 ≡ n = mod-eq_of_lt h in
      rw same (byte-lawful.again n rest h);
  within = byte-lawful.within;
}

limit_most : (allowed : Bool) (n limit : ℕ) → 0 < limit → n < limit_where allowed limit → n < limit
limit_most true n limit some h = h
limit_most false n limit some h = omega arith

flag_back : (b : ℕ) → b < 2 → byte_of_flag (flag_of b) ≡ b
flag_back zero h = refl
flag_back (suc zero) h = refl
flag_back (suc (suc b)) h = absurd (omega (arith, h))

flag_again : (b : Bool) → flag_of (byte_of_flag b) ≡ b
flag_again true = refl
flag_again false = refl

flag_where-lawful : (allowed : Bool) → Lawful (flag_where allowed)
flag_where-lawful allowed =
    seen-lawful flag_of byte_of_flag (below-lawful (limit_where allowed 2) byte-lawful)
    (λ b h. flag_back b (limit_most allowed b 2 (omega arith) (ltb-true b (limit_where allowed 2) h.1))) flag_again

option_back : (there : Bool) (n limit : ℕ) → IsTrue (ltb n (limit_where there limit)) → flag_and_value (option_of (there, n)) ≡ (there, n)
option_back true n limit h = refl
option_back false n limit h =
    let none : 0 ≡ n = omega (arith, ltb-true n 1 h) in
    ap (λ (k : ℕ). (false, k)) none

option_again : (o : Option ℕ) → option_of (flag_and_value o) ≡ o
option_again None = refl
option_again (Some n) = refl

option_where-lawful : {f : Form ℕ} (allowed : Bool) (limit : ℕ) → Lawful f → Lawful (option_where allowed f limit)
option_where-lawful {f} allowed limit law =
    seen-lawful option_of flag_and_value (both-lawful (flag_where-lawful allowed) (λ (there : Bool). below-lawful {f = f} (limit_where there limit) law))
    (λ p h. option_back p.0 p.1 limit h.1.1) option_again

-- ---- Groups

clock_back : (n : ℕ) → clock_number (clock_of n) ≡ n
clock_back n =
    elim (cases_Bool (eqb n 0)) [
      | inl e ↦ rw e (sym (eqb-true n 0 e))
      | inr e ↦ let some : n ≢ 0 = eqb-false n 0 e in rw e (omega arith)
    ]

clock_again : (c : Clock) → clock_of (clock_number c) ≡ c
clock_again Reference = refl
clock_again (Block k) =
    let some : eqb (1 + k) 0 ≡ false = ne_eqb (1 + k) 0 (λ e. omega (arith, e)) in
    let same : 1 + k - 1 ≡ k = omega arith in
    rw some (ap (λ (n : ℕ). Block n) same)

clock-lawful : (on : Bool) → Lawful (clock on)
unfolding clock
clock-lawful on = seen-lawful clock_of clock_number (below-lawful (limit_where on 7) low_byte-lawful) (λ n h. clock_back n) clock_again

basics-lawful : Lawful basics
unfolding basics
basics-lawful =
    seen-lawful basics_of basics_parts
    (both-lawful flag-lawful (λ on.
    both-lawful (flag_where-lawful on) (λ output.
    both-lawful (clock-lawful on) (λ clock.
    below-lawful (limit_where on (2 ^ 16)) half-lawful))))
    (λ x h. refl) (λ b. refl)

widths-lawful : (p : ℕ) (on : Bool) → Lawful (widths p on)
unfolding widths
widths-lawful p on =
    seen-lawful widths_of widths_parts
    (both-lawful (flag_where-lawful on) (λ buffers.
    both-lawful (where-lawful (is_tw p on buffers) low_byte-lawful) (λ tw.
    both-lawful (where-lawful (are_beats (port_width p) tw) low_byte-lawful) (λ want.
    below-lawful (limit_where on (2 ^ port_width p)) word-lawful))))
    (λ x h. refl) (λ w. refl)

condition_back : (n : ℕ) → n < 3 → condition_number (condition_of n) ≡ n
condition_back zero h = refl
condition_back (suc zero) h = refl
condition_back (suc (suc zero)) h = refl
condition_back (suc (suc (suc n))) h = absurd (omega (arith, h))

condition_again : (c : Condition) → condition_of (condition_number c) ≡ c
condition_again conditions.None = refl
condition_again conditions.Equal = refl
condition_again conditions.NotEqual = refl

condition-lawful : (on : Bool) → Lawful (condition on)
unfolding condition
condition-lawful on =
    seen-lawful condition_of condition_number (below-lawful (limit_where on 3) byte-lawful)
    (λ n h. condition_back n (limit_most on n 3 (omega arith) (ltb-true n (limit_where on 3) h.1))) condition_again

trigger-lawful : (on : Bool) → Lawful (trigger on)
unfolding trigger
trigger-lawful on =
    seen-lawful trigger_of trigger_parts
    (both-lawful (condition-lawful on) (λ condition. option_where-lawful on (2 ^ 16) half-lawful))
    (λ x h. refl) (λ t. refl)

shift-lawful : (p : ℕ) (output : Bool) (tw : ℕ) → Lawful (shift p output tw)
unfolding shift
shift-lawful p output tw =
    seen-lawful shift_of shift_parts
    (both-lawful (below-lawful (sr_limit output tw) word-lawful) (λ sr. where-lawful (is_count p output tw sr) byte-lawful))
    (λ x h. refl) (λ s. refl)

transfer_back : (p : ℕ) (tw : ℕ) (value : Option ℕ) (bits : ℕ) (time : Option ℕ) → IsTrue (are_bits p tw value bits) → (option_where (is_some value) half (2 ^ 16)).Holds time
    → transfer_parts (transfer_of (value, (bits, time))) ≡ (value, (bits, time))
transfer_back p tw (Some value) bits time h k = refl
transfer_back p tw None bits None h k =
    let none : bits ≡ 0 = eqb-true bits 0 h in
    rw none refl
transfer_back p tw None bits (Some t) h k = absurd (omega (arith, ltb-true 1 1 k.0.1))

transfer_again : (tr : Option Transfer) → transfer_of (transfer_parts tr) ≡ tr
transfer_again None = refl
transfer_again (Some t) = refl

transfer-lawful : (p : ℕ) (on : Bool) (tw : ℕ) → Lawful (transfer p on tw)
unfolding transfer
transfer-lawful p on tw =
    seen-lawful transfer_of transfer_parts
    (both-lawful (option_where-lawful on (2 ^ 32) word-lawful) (λ value.
    both-lawful (where-lawful (are_bits p tw value) byte-lawful) (λ bits.
    option_where-lawful (is_some value) (2 ^ 16) half-lawful)))
    (λ x h. transfer_back p tw x.0 x.1.0 x.1.1 h.1.0.1 h.1.1) transfer_again

strobe_back : (n : ℕ) → strobe_number (strobe_of n) ≡ n
strobe_back n =
    elim (cases_Bool (eqb n 0)) [
      | inl e ↦ rw e (sym (eqb-true n 0 e))
      | inr e ↦ let some : n ≢ 0 = eqb-false n 0 e in rw e (omega arith)
    ]

strobe_again : (s : Option ℕ) → strobe_of (strobe_number s) ≡ s
strobe_again None = refl
strobe_again (Some k) =
    let some : eqb (1 + k) 0 ≡ false = ne_eqb (1 + k) 0 (λ e. omega (arith, e)) in
    let same : 1 + k - 1 ≡ k = omega arith in
    rw some (ap (λ (n : ℕ). Some n) same)

strobe-lawful : (p : ℕ) (on : Bool) → Lawful (strobe p on)
unfolding strobe
strobe-lawful p on = seen-lawful strobe_of strobe_number (where-lawful (is_strobe p on) low_byte-lawful) (λ n h. strobe_back n) strobe_again

tail-lawful : (p : ℕ) (on : Bool) → Lawful (tail p on)
unfolding tail
tail-lawful p on =
    seen-lawful tail_of tail_parts
    (both-lawful (flag_where-lawful on) (λ held.
    both-lawful (below-lawful (limit_where on (2 ^ 16)) half-lawful) (λ sample_stamp.
    both-lawful (below-lawful (limit_where on (2 ^ 16)) half-lawful) (λ stamp.
    both-lawful (strobe-lawful p on) (λ strobe.
    option_where-lawful on (2 ^ port_width p) word-lawful)))))
    (λ x h. refl) (λ t. refl)

-- ---- Ports

pub port-lawful : (p : ℕ) → Lawful (port p)
unfolding port
port-lawful p =
    seen-lawful port_of port_parts
    (both-lawful basics-lawful (λ b.
    both-lawful (widths-lawful p b.on) (λ w.
    both-lawful (trigger-lawful b.on) (λ t.
    both-lawful (shift-lawful p b.output w.tw) (λ s.
    both-lawful (transfer-lawful p b.on w.tw) (λ tr.
    tail-lawful p b.on))))))
    (λ x h. refl) (λ s. refl)

pub ports-lawful : Lawful ports
unfolding ports
ports-lawful = chain-lawful (λ before. port-lawful (length before)) 29
