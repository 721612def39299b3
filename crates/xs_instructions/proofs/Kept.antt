-- Values in range are kept whole, so that a row makes of them what it makes of what its fields keep.
use Rattle.std.proofs.Common.{◌≡◌, ℕ, ◌+◌, ◌<◌, true, List, [], ◌∷◌, ◌++◌, length, refl, sym, ap, arith, append_assoc, length-append}
use Rattle.std.proofs.lemmas.Bool.{and_parts, false≢true, ltb-true}
use Rattle.std.proofs.lemmas.Bool.Decides.{nat_tests}
use Rattle.std.proofs.Math.Nat.{mod-eq_of_lt}
use Rattle.std.proofs.Math.Seq.{get_or-append_seam}
use Rattle.xs_instructions.specs.declared.rows.Part.{Part}
use Rattle.xs_instructions.specs.declared.rows.Part.TheVariants.{Common, AnyRegister, Register, Small, Width, Short, Exactly, Label, Word}
use Rattle.xs_instructions.specs.declared.rows.Row.{Row}
use Rattle.xs_instructions.specs.Operands.{made}
use Rattle.xs_instructions.specs.Instr.{is_width, value_parts}
use Rattle.xs_instructions.specs.Find.{is_in_range, are_in_range}
use Rattle.xs_instructions.specs.Kept.{each_value, kept, kept_of}

below_width : (b : ℕ) → is_width b ≡ true → b < 256
below_width b h = grind (arith, nat_tests)

kept_of-whole : (p : Part) (v : ℕ) → is_in_range p v ≡ true → kept_of p v ≡ v
kept_of-whole Common v h = mod-eq_of_lt (omega (arith, ltb-true _ _ h))
kept_of-whole AnyRegister v h = mod-eq_of_lt (omega (arith, ltb-true _ _ h))
kept_of-whole (Register n) v h = absurd (false≢true h)
kept_of-whole Small v h = mod-eq_of_lt (omega (arith, ltb-true _ _ h))
kept_of-whole Width v h = mod-eq_of_lt (below_width v h)
kept_of-whole Short v h = mod-eq_of_lt (omega (arith, ltb-true _ _ h))
kept_of-whole (Exactly n) v h = grind (arith, nat_tests)
kept_of-whole Label v h = mod-eq_of_lt (omega (arith, ltb-true _ _ h))
kept_of-whole (Word n) v h = absurd (false≢true h)

-- what leaves each value in range as it is leaves them all
pub each_value-same : (f : Part → ℕ → ℕ) → ((p : Part) (v : ℕ) → is_in_range p v ≡ true → f p v ≡ v)
    → (parts : List Part) (before values : List ℕ) → are_in_range parts values ≡ true → each_value f (length before) parts (before ++ values) ≡ values
each_value-same f same [] before [] h = refl
each_value-same f same [] before (v ∷ values) h = absurd (false≢true h)
each_value-same f same (p ∷ parts) before [] h = absurd (false≢true h)
each_value-same f same (p ∷ parts) before (v ∷ values) h =
    let both = and_parts (is_in_range p v) (are_in_range parts values) h in
    let next : before ++ v ∷ values ≡ (before ++ v ∷ []) ++ values = sym (append_assoc before (v ∷ []) values) in
    let longer : length before + 1 ≡ length (before ++ v ∷ []) = sym (length-append before (v ∷ [])) in
    rw (get_or-append_seam before v values 0, same p v both.0, next, longer, each_value-same f same parts (before ++ v ∷ []) values both.1) refl

pub made_of_kept : (r : Row) (values : List ℕ) → are_in_range (value_parts r) values ≡ true → made r (kept (value_parts r) values) ≡ made r values
made_of_kept r values h = ap (made r) (each_value-same kept_of kept_of-whole (value_parts r) [] values h)
