-- The entries of a mask are disabled, one after the other.
use Rattle.std.proofs.Common.{ℕ, ◌≡◌, ◌+◌, ◌<◌, ◌≤◌, Bool, cond, List, length, set, map, refl, ap, sym, ◌∙◌, arith, inl, inr}
use Rattle.std.proofs.lemmas.Bool.{cond-false, cases_eq}
use Rattle.std.proofs.lemmas.List.{ext_get_or, length-map, length-set, get_or-map, get_or-set_same, get_or-set_other}
use Rattle.std.proofs.lemmas.Nat.Bits.{bit_at-zero}
use Rattle.std.specs.Prelude.{◌==◌}
use Rattle.xs_model.specs.Masks.{in_mask}
use Rattle.xs_model.specs.Record.{EnablingRec, not_enabled}
use Rattle.xs_model.specs.Enabling.{disabled, disabled_where}
use Rattle.event_unit.specs.Marks.{entry_at, disabled_in}

-- so far those below n are, and the others are as they were
pub record AreDisabledBelow (n mask : ℕ) (old new : List EnablingRec) : Type 0 where
  pub count : length new ≡ length old
  pub below : (i : ℕ) → i < n → entry_at new i ≡ disabled_in mask i (entry_at old i)
  pub others : (i : ℕ) → n ≤ i → entry_at new i ≡ entry_at old i

pub one_more : (n mask : ℕ) (old new : List EnablingRec) → AreDisabledBelow n mask old new → n < length old → AreDisabledBelow (n + 1) mask old (set new n (disabled_in mask n (entry_at new n)))
one_more n mask old new so_far within = record {
  count = length-set new n _ ∙ so_far.count;
  below = λ i h. elim (cases_eq i n) [
    | inl e ↦ ap (entry_at (set new n (disabled_in mask n (entry_at new n)))) e ∙ get_or-set_same new n _ not_enabled (omega (arith, so_far.count)) ∙ ap (disabled_in mask n) (so_far.others n (omega arith)) ∙ ap (λ k. disabled_in mask k (entry_at old k)) (sym e)
    | inr ne ↦ get_or-set_other new n i _ not_enabled ne ∙ so_far.below i (omega (arith, ne))
  ];
  others = λ i h. get_or-set_other new n i _ not_enabled (λ e. omega (arith, e, h)) ∙ so_far.others i (omega arith);
}

-- where the mask has those that pass a test, these are disabled in the end
pub all_disabled : (mask n : ℕ) (old new : List EnablingRec) (test : EnablingRec → Bool) → length old ≤ n → ((i : ℕ) → i < length old → in_mask mask i ≡ test (entry_at old i)) → AreDisabledBelow n mask old new → new ≡ map (disabled_where test) old
all_disabled mask n old new test all agrees done =
    ext_get_or not_enabled new (map (disabled_where test) old) (done.count ∙ sym (length-map old (disabled_where test))) (λ i h.
    let within : i < length old = omega (arith, h, done.count) in
    done.below i (omega arith)
    ∙ ap (λ b. cond b (disabled (entry_at old i)) (entry_at old i)) (agrees i within)
    ∙ sym (get_or-map (disabled_where test) old i not_enabled not_enabled within))

-- an empty mask disables nothing
pub none_disabled : (n : ℕ) (old : List EnablingRec) → AreDisabledBelow n 0 old old
none_disabled n old = record {
  count = refl;
  below = λ i h. sym (cond-false (in_mask 0 i) (disabled (entry_at old i)) (entry_at old i) (ap (λ d. d == 1) (bit_at-zero i)));
  others = λ i h. refl;
}
