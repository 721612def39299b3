-- The inputs that can act are those that act alone and those at which a token may wait.
use Rattle.std.proofs.Common.{ℕ, zero, suc, ◌≡◌, ◌+◌, ◌-◌, ◌*◌, ◌<◌, ◌≤◌, Bool, false, cond, eqb, Option, List, [], ◌∷◌, get_or, max, sym, refl, ap, ◌∙◌, inl, inr, arith}
use Rattle.std.specs.Prelude.{bit_or}
use Rattle.std.specs.Int.{bit_at}
use Rattle.std.proofs.lemmas.Bool.{cases_lt, true≢false, lt-ltb, le-ltb}
use Rattle.std.proofs.lemmas.Nat.Bits.{bit_at_or, bit_at-lt, bit_at_cat_low, bit_at_cat_high, bit_at_above}
use Rattle.xs_base.specs.declared.token.Token.{Token}
use Rattle.xs_model.specs.Masks.{in_mask}
use Rattle.xs_model.specs.Record.{ChanRec, InputRec, Idle}
use Rattle.xs_model.specs.Choices.{waits_in}
use Rattle.chan_ends.specs.Ends.{chan_at, has_output}
use Rattle.link_ends.specs.Counts.{EndCounts}
use Rattle.quiet_model.specs.Still.{acts_alone}
use Rattle.switch_routes.specs.Rest.{IsStill, AreMarked}
use Rattle.switch_routes.specs.Rows.{buffer_of, counts_at, waiting_in}

-- a bit of two masks together
none-of-max : (x y : ℕ) → x < 2 → y < 2 → eqb (max x y) 1 ≡ false → (eqb x 1 ≡ false) × (eqb y 1 ≡ false)
none-of-max zero zero hx hy is = (refl, refl)
none-of-max zero (suc zero) hx hy is = absurd (true≢false is)
none-of-max (suc zero) zero hx hy is = absurd (true≢false is)
none-of-max (suc zero) (suc zero) hx hy is = absurd (true≢false is)
none-of-max zero (suc (suc y)) hx hy is = absurd (omega (arith, hy))
none-of-max (suc zero) (suc (suc y)) hx hy is = absurd (omega (arith, hy))
none-of-max (suc (suc x)) y hx hy is = absurd (omega (arith, hx))

max-of-none : (x y : ℕ) → x < 2 → y < 2 → eqb x 1 ≡ false → eqb y 1 ≡ false → eqb (max x y) 1 ≡ false
max-of-none zero zero hx hy a b = refl
max-of-none zero (suc zero) hx hy a b = absurd (true≢false b)
max-of-none (suc zero) y hx hy a b = absurd (true≢false a)
max-of-none zero (suc (suc y)) hx hy a b = absurd (omega (arith, hy))
max-of-none (suc (suc x)) y hx hy a b = absurd (omega (arith, hx))

none-of-both : (a b i : ℕ) → in_mask (bit_or a b) i ≡ false → (in_mask a i ≡ false) × (in_mask b i ≡ false)
none-of-both a b i clear =
    none-of-max (bit_at a i) (bit_at b i) (bit_at-lt a i) (bit_at-lt b i) (sym (ap (λ n. eqb n 1) (bit_at_or a b i)) ∙ clear)

both-of-none : (a b i : ℕ) → in_mask a i ≡ false → in_mask b i ≡ false → in_mask (bit_or a b) i ≡ false
both-of-none a b i left right =
    ap (λ n. eqb n 1) (bit_at_or a b i) ∙ max-of-none (bit_at a i) (bit_at b i) (bit_at-lt a i) (bit_at-lt b i) left right

pub is-empty : (ts : List Token) → waits_in ts ≡ false → ts ≡ []
is-empty [] is = refl
is-empty (t ∷ ts) is = absurd (true≢false is)

module _ (states : List InputRec) (ends : List ChanRec) (row : List (Option EndCounts)) (alone sending waiting : ℕ) (byte : waiting < 256) where
  waits-none : ((c : ℕ) → c < 32 → in_mask sending c ≡ has_output (chan_at ends c)) → AreMarked waiting row → (i : ℕ) → i < 40 → in_mask (sending * 256 + waiting) i ≡ false → waiting_in ends row i ≡ []
  waits-none sends marked i h clear = elim (cases_lt i 8) [
    | inl link ↦
        ap (λ (b : Bool). cond b (buffer_of (counts_at row i)) (chan_at ends (i - 8)).output) (lt-ltb i 8 link)
        ∙ marked i link (sym (ap (λ n. eqb n 1) (bit_at_cat_low sending 8 waiting i link)) ∙ clear)
    | inr chan ↦
        ap (λ (b : Bool). cond b (buffer_of (counts_at row i)) (chan_at ends (i - 8)).output) (le-ltb i 8 chan)
        ∙ is-empty (chan_at ends (i - 8)).output (sym (sends (i - 8) (omega (arith, h, chan))) ∙ sym (ap (λ n. eqb n 1) (bit_at_cat_high sending 8 waiting i byte chan)) ∙ clear)
  ]

  pub still_in : ((i : ℕ) → i < 64 → in_mask alone i ≡ acts_alone (get_or states i Idle)) → ((c : ℕ) → c < 32 → in_mask sending c ≡ has_output (chan_at ends c)) → AreMarked waiting row → (i : ℕ) → i < 40 → in_mask (bit_or alone (sending * 256 + waiting)) i ≡ false → IsStill states ends row i
  still_in acts sends marked i h clear =
      let parts = none-of-both alone (sending * 256 + waiting) i clear in
      record { alone = sym (acts i (omega (arith, h))) ∙ parts.0; waiting = waits-none sends marked i h parts.1 }

pub above_in : (alone sending waiting : ℕ) → waiting < 256 → sending < 4294967296 → (i : ℕ) → 40 ≤ i → in_mask alone i ≡ false → in_mask (bit_or alone (sending * 256 + waiting)) i ≡ false
above_in alone sending waiting byte word i from none =
    both-of-none alone (sending * 256 + waiting) i none
    (ap (λ n. eqb n 1) (bit_at_cat_high sending 8 waiting i byte (omega (arith, from)) ∙ bit_at_above sending 32 (i - 8) word (omega (arith, from))))
