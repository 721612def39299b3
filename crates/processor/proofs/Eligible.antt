-- In which slots some thread may issue, by the threads that are able there.
use Rattle.std.specs.Prelude.{Bool, false, ◌&&◌, ◌||◌, List, [], ◌∷◌}
use Rattle.std.specs.List.{list_any}
use Rattle.std.proofs.Common.{◌≡◌, ◌<◌, ℕ, refl, ap, ap₂, sym, ◌∙◌, eqb, arith}
use Rattle.std.specs.List.{AllByRecursion}
use Rattle.std.proofs.lemmas.Nat.Bits.{bit_at-zero}
use Rattle.xs_model.specs.Masks.{in_mask}
use Rattle.xs_model.specs.Record.{CoreRec, last_of}
use Rattle.xs_model.specs.Picks.{is_able, is_rested, eligible}
use Rattle.quiet_model.specs.Stirs.{thread_numbers, some_eligible}
use Rattle.thread_slots.specs.Able.{may_pick, some_may_pick}
use Rattle.core_waits.specs.declared.able.Able.{Able}
use Rattle.core_waits.specs.Parts.{IsFor, AreAble}

any_alike : (p q : ℕ → Bool) → ((k : ℕ) → k < 8 → p k ≡ q k) → (ks : List ℕ) → AllByRecursion (λ k. k < 8) ks → list_any p ks ≡ list_any q ks
any_alike p q same [] all = refl
any_alike p q same (k ∷ ks) all = ap₂ (λ a b. a || b) (same k all.0) (any_alike p q same ks all.1)

-- tests that agree on each thread
some_alike : (p q : ℕ → Bool) → ((k : ℕ) → k < 8 → p k ≡ q k) → list_any p thread_numbers ≡ list_any q thread_numbers
some_alike p q same = any_alike p q same thread_numbers (omega arith, (omega arith, (omega arith, (omega arith, (omega arith, (omega arith, (omega arith, (omega arith, tt))))))))

-- some thread may issue where one of those that are able is rested
pub by_mask : (core : CoreRec) (able slot : ℕ) → ((k : ℕ) → k < 8 → in_mask able k ≡ is_able core k slot) → some_may_pick able core.slots.last slot ≡ some_eligible core slot
by_mask core able slot are =
    some_alike (may_pick able core.slots.last slot) (λ k. eligible core k slot) (λ k h. ap (λ its. its && is_rested (last_of core k) slot) (are k h))

module _ (core : CoreRec) (able : Able) (slot : ℕ) (known : AreAble core able) (at : IsFor able slot) where
  -- some thread may issue where one of those that are known to be able is rested
  pub by_able : some_may_pick able.threads core.slots.last slot ≡ some_eligible core slot
  by_able = by_mask core able.threads slot (λ k. known.at slot k at)

  -- and none may where none is able
  pub none_able : able.threads ≡ 0 → some_eligible core slot ≡ false
  none_able none =
      some_alike (λ k. eligible core k slot) (λ k. false)
      (λ k h. ap (λ its. its && is_rested (last_of core k) slot) (sym (known.at slot k at h) ∙ ap (λ mask. in_mask mask k) none ∙ ap (λ b. eqb b 1) (bit_at-zero k)))
