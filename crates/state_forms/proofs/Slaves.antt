-- The slaves of a mask, thread by thread.
use Rattle.std.proofs.Common.{◌≡◌, ℕ, zero, suc, ◌+◌, ◌/◌, ◌<◌, ◌≤◌, eqb, Bool, true, false, ◌&&◌, ◌||◌, List, [], ◌∷◌, get_or, take, refl, sym, ap, ◌∙◌, arith, inl, inr}
use Rattle.std.specs.List.{list_any, filter}
use Rattle.std.proofs.lemmas.Bool.{or_from, and_from, and_left, and_right, cases_Bool, false≢true}
use Rattle.std.proofs.lemmas.List.{take_all}
use Rattle.std.proofs.lemmas.List.Folds.{list_any_more, list_any_at, list_any_none}
use Rattle.std.proofs.lemmas.Nat.Bits.{bit_at-suc, bit_at-zero}
use Rattle.std.specs.Int.{bit_at}
use Rattle.xs_model.specs.Masks.{in_mask, members}
use Rattle.sync_locks.specs.declared.state.SyncState.{SyncState}
use Rattle.state_forms.specs.Syncs.{cannot_be_slave}

abbrev pub threads : List ℕ
threads = 0 ∷ 1 ∷ 2 ∷ 3 ∷ 4 ∷ 5 ∷ 6 ∷ 7 ∷ []

thread_at : (k d : ℕ) → k < 8 → get_or threads k d ≡ k
thread_at zero d h = refl
thread_at (suc zero) d h = refl
thread_at (suc (suc zero)) d h = refl
thread_at (suc (suc (suc zero))) d h = refl
thread_at (suc (suc (suc (suc zero)))) d h = refl
thread_at (suc (suc (suc (suc (suc zero))))) d h = refl
thread_at (suc (suc (suc (suc (suc (suc zero)))))) d h = refl
thread_at (suc (suc (suc (suc (suc (suc (suc zero))))))) d h = refl
thread_at (suc (suc (suc (suc (suc (suc (suc (suc k)))))))) d h = absurd (omega (arith, h))

-- some element of a filtered list passes where some element passes both tests
some_filtered : (f g : ℕ → Bool) (xs : List ℕ) → list_any f (filter g xs) ≡ list_any (λ k. g k && f k) xs
some_filtered f g [] = refl
some_filtered f g (x ∷ xs) =
    elim (cases_Bool (g x)) [
      | inl h ↦ rw h (ap (λ b. f x || b) (some_filtered f g xs))
      | inr h ↦ rw h (some_filtered f g xs)
    ]

module _ (taken : List Bool) (before : List SyncState) (mask : ℕ) where
  abbrev is_wrong : ℕ → Bool
  is_wrong k = in_mask mask k && cannot_be_slave taken before k

  -- some thread below n is in the mask, and cannot be a slave
  abbrev pub some_below : ℕ → Bool
  some_below n = list_any is_wrong (take n threads)

  all_threads : list_any (cannot_be_slave taken before) (members mask) ≡ list_any is_wrong threads
  all_threads = some_filtered (cannot_be_slave taken before) (in_mask mask) threads

  pub some_more : (k : ℕ) → k < 8 → some_below k ≡ false → is_wrong k ≡ false → some_below (k + 1) ≡ false
  some_more k lt none not_it =
      list_any_more is_wrong threads k 0 lt ∙ or_from (some_below k) (is_wrong (get_or threads k 0)) none (ap is_wrong (thread_at k 0 lt) ∙ not_it)

  pub some_here : (k : ℕ) → k < 8 → is_wrong k ≡ true → list_any (cannot_be_slave taken before) (members mask) ≡ true
  some_here k lt it = all_threads ∙ list_any_at is_wrong threads k 0 lt (ap is_wrong (thread_at k 0 lt) ∙ it)

  pub none_of : (n : ℕ) → 8 ≤ n → some_below n ≡ false → list_any (cannot_be_slave taken before) (members mask) ≡ false
  none_of n le none = all_threads ∙ ap (list_any is_wrong) (sym (take_all n threads le)) ∙ none

  -- a thread of the mask where none of it is wrong
  pub in_mask_is : list_any (cannot_be_slave taken before) (members mask) ≡ false → (k : ℕ) → k < 8 → in_mask mask k ≡ true → cannot_be_slave taken before k ≡ false
  in_mask_is none k lt its =
      elim (cases_Bool (cannot_be_slave taken before k)) [
        | inl h ↦ absurd (false≢true (sym none ∙ some_here k lt (and_from (in_mask mask k) (cannot_be_slave taken before k) its h)))
        | inr h ↦ h
      ]

  right : ((k : ℕ) → k < 8 → in_mask mask k ≡ true → cannot_be_slave taken before k ≡ false) → (k : ℕ) → k < 8 → is_wrong k ≡ false
  right each k lt =
      elim (cases_Bool (in_mask mask k)) [
        | inl h ↦ and_right (in_mask mask k) (cannot_be_slave taken before k) (each k lt h)
        | inr h ↦ and_left (in_mask mask k) (cannot_be_slave taken before k) h
      ]

  pub none_by : ((k : ℕ) → k < 8 → in_mask mask k ≡ true → cannot_be_slave taken before k ≡ false) → list_any (cannot_be_slave taken before) (members mask) ≡ false
  none_by each = all_threads ∙ list_any_none is_wrong threads (λ k d lt. ap is_wrong (thread_at k d lt) ∙ right each k lt)

-- a mask of eight bits has no others
pub bit_above : (mask k : ℕ) → mask < 256 → in_mask mask k ≡ true → k < 8
bit_above mask (suc (suc (suc (suc (suc (suc (suc (suc k)))))))) fits its =
    let gone : mask / 2 / 2 / 2 / 2 / 2 / 2 / 2 / 2 ≡ 0 = omega (arith, fits) in
    let bit : bit_at mask (suc (suc (suc (suc (suc (suc (suc (suc k)))))))) ≡ 0 =
    bit_at-suc mask _ ∙ bit_at-suc (mask / 2) _ ∙ bit_at-suc (mask / 2 / 2) _ ∙ bit_at-suc (mask / 2 / 2 / 2) _ ∙ bit_at-suc (mask / 2 / 2 / 2 / 2) _
    ∙ bit_at-suc (mask / 2 / 2 / 2 / 2 / 2) _ ∙ bit_at-suc (mask / 2 / 2 / 2 / 2 / 2 / 2) _ ∙ bit_at-suc (mask / 2 / 2 / 2 / 2 / 2 / 2 / 2) k
    ∙ ap (λ (n : ℕ). bit_at n k) gone ∙ bit_at-zero k in
    absurd (false≢true (sym (ap (λ (b : ℕ). eqb b 1) bit) ∙ its))
bit_above mask zero fits its = omega arith
bit_above mask (suc zero) fits its = omega arith
bit_above mask (suc (suc zero)) fits its = omega arith
bit_above mask (suc (suc (suc zero))) fits its = omega arith
bit_above mask (suc (suc (suc (suc zero)))) fits its = omega arith
bit_above mask (suc (suc (suc (suc (suc zero))))) fits its = omega arith
bit_above mask (suc (suc (suc (suc (suc (suc zero)))))) fits its = omega arith
bit_above mask (suc (suc (suc (suc (suc (suc (suc zero))))))) fits its = omega arith

-- none is in the mask 0
pub in_none : (k : ℕ) → in_mask 0 k ≡ true → ⊥
in_none k its = false≢true (sym (ap (λ (b : ℕ). eqb b 1) (bit_at-zero k)) ∙ its)
