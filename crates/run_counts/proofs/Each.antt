-- Lists of which each element belongs to one of another list.
use Rattle.std.proofs.Common.{◌≡◌, ℕ, ◌+◌, ◌<◌, ◌≤◌, Some, List, [], ◌∷◌, ◌++◌, length, set, sym, subst, arith}
use Rattle.std.specs.Prelude.{slice_get, slice_index_or}
use Rattle.std.proofs.Math.Nat.{eq-or-lt_of_le}
use Rattle.std.proofs.Math.Logic.{⊎_elim}
use Rattle.std.proofs.Math.Seq.{get_or-append_seam}
use Rattle.std.proofs.lemmas.List.{get_or_append_left, get_or-set_same, get_or-set_other}

module _ {A B : Type 0} (Is : ℕ → A → B → Type 0) where
  -- so many of them
  abbrev pub EachTo : List A → List B → ℕ → Type 0
  EachTo xs ys count = (m : ℕ) (a : A) (none : B) → m < count → slice_get xs m ≡ Some a → Is m a (slice_index_or ys m none)

  -- the one at a place, and those before it
  one-more : (xs : List A) (ys : List B) (k : ℕ) (b : B) → ((none : B) → slice_index_or ys k none ≡ b) → EachTo xs ys k
      → ((a : A) → slice_get xs k ≡ Some a → Is k a b) → EachTo xs ys (k + 1)
  one-more xs ys k b there before is m a none h here =
      let last : m ≡ k → Is m a (slice_index_or ys m none) =
      λ same. subst (λ (i : ℕ). slice_get xs i ≡ Some a → Is i a (slice_index_or ys i none)) (sym same) (λ at_k. subst (Is k a) (sym (there none)) (is a at_k)) here in
      ⊎_elim last (λ h. before m a none h here) (eq-or-lt_of_le (omega (arith, h)))

  -- one is put at the end
  pub one-pushed : (xs : List A) (ys : List B) (k : ℕ) (b : B) → length ys ≡ k → EachTo xs ys k → ((a : A) → slice_get xs k ≡ Some a → Is k a b)
      → EachTo xs (ys ++ b ∷ []) (k + 1)
  one-pushed xs ys k b long before is =
      let there : (none : B) → slice_index_or (ys ++ b ∷ []) k none ≡ b =
      λ none. subst (λ (i : ℕ). slice_index_or (ys ++ b ∷ []) i none ≡ b) long (get_or-append_seam ys b [] none) in
      one-more xs (ys ++ b ∷ []) k b there
      (λ m a none h here. subst (Is m a) (sym (get_or_append_left ys (b ∷ []) none m (omega (arith, h, long)))) (before m a none h here)) is

  -- one is changed
  pub one-changed : (xs : List A) (ys : List B) (k : ℕ) (b : B) → k < length ys → EachTo xs ys k → ((a : A) → slice_get xs k ≡ Some a → Is k a b)
      → EachTo xs (set ys k b) (k + 1)
  one-changed xs ys k b within before is =
      one-more xs (set ys k b) k b (λ none. get_or-set_same ys k b none within)
      (λ m a none h here. subst (Is m a) (sym (get_or-set_other ys k m b none (λ same. omega (arith, h, same)))) (before m a none h here)) is

  -- from a place on
  abbrev pub EachFrom : List A → List B → ℕ → Type 0
  EachFrom xs ys from = (m : ℕ) (a : A) (none : B) → from ≤ m → slice_get xs m ≡ Some a → Is m a (slice_index_or ys m none)

  pub others-kept : (xs : List A) (ys : List B) (k : ℕ) (b : B) → EachFrom xs ys k → EachFrom xs (set ys k b) (k + 1)
  others-kept xs ys k b kept m a none h here =
      subst (Is m a) (sym (get_or-set_other ys k m b none (λ same. omega (arith, h, same)))) (kept m a none (omega (arith, h)) here)
