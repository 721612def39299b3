-- From port 28 on the definition has one width.
use Rattle.std.proofs.Common.{◌≡◌, ℕ, Bool, true, false, refl, ap, sym, ◌∙◌, nat_lt, min, arith}
use Rattle.std.proofs.lemmas.Bool.Decides.{nat_tests}
use Rattle.xs_base.specs.Ids.{port_width}

pub width_capped : (port : ℕ) → port_width (min port 28) ≡ port_width port
width_capped port = by (nat_lt port 28) refl
  where
    by : (b : Bool) → nat_lt port 28 ≡ b → port_width (min port 28) ≡ port_width port
    by true e = let same : min port 28 ≡ port = grind (arith, nat_tests) in ap port_width same
    by false e =
        let least : min port 28 ≡ 28 = grind (arith, nat_tests) in
        let past_one : nat_lt port 16 ≡ false = grind (arith, nat_tests) in
        let past_four : nat_lt port 22 ≡ false = grind (arith, nat_tests) in
        let past_eight : nat_lt port 26 ≡ false = grind (arith, nat_tests) in
        let last : port_width port ≡ 32 = rw (past_one, past_four, past_eight, e) refl in
        ap port_width least ∙ sym last
