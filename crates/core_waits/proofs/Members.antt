-- The members of a mask, from one thread on.
use Rattle.std.proofs.Common.{ℕ, zero, suc, ◌≡◌, ◌+◌, ◌<◌, ◌≤◌, true, false, cond, List, [], ◌∷◌, drop, refl, ap, ◌∙◌, arith}
use Rattle.std.specs.Prelude.{filter}
use Rattle.std.proofs.lemmas.List.{drop_all}
use Rattle.xs_model.specs.Masks.{in_mask}

abbrev pub threads_from : ℕ → List ℕ
threads_from k = drop k (0 ∷ 1 ∷ 2 ∷ 3 ∷ 4 ∷ 5 ∷ 6 ∷ 7 ∷ [])

abbrev pub members_from : ℕ → ℕ → List ℕ
members_from mask k = filter (in_mask mask) (threads_from k)

next_thread : (k : ℕ) → k < 8 → threads_from k ≡ k ∷ threads_from (k + 1)
next_thread zero h = refl
next_thread (suc zero) h = refl
next_thread (suc (suc zero)) h = refl
next_thread (suc (suc (suc zero))) h = refl
next_thread (suc (suc (suc (suc zero)))) h = refl
next_thread (suc (suc (suc (suc (suc zero))))) h = refl
next_thread (suc (suc (suc (suc (suc (suc zero)))))) h = refl
next_thread (suc (suc (suc (suc (suc (suc (suc zero))))))) h = refl
next_thread (suc (suc (suc (suc (suc (suc (suc (suc k)))))))) h = absurd (omega arith)

pub member : (mask k : ℕ) → k < 8 → in_mask mask k ≡ true → members_from mask k ≡ k ∷ members_from mask (k + 1)
member mask k within is =
    ap (filter (in_mask mask)) (next_thread k within) ∙ ap (λ b. cond b (k ∷ members_from mask (k + 1)) (members_from mask (k + 1))) is

pub no_member : (mask k : ℕ) → k < 8 → in_mask mask k ≡ false → members_from mask k ≡ members_from mask (k + 1)
no_member mask k within is =
    ap (filter (in_mask mask)) (next_thread k within) ∙ ap (λ b. cond b (k ∷ members_from mask (k + 1)) (members_from mask (k + 1))) is

pub no_more : (mask k : ℕ) → 8 ≤ k → members_from mask k ≡ []
no_more mask k past = ap (filter (in_mask mask)) (drop_all k (0 ∷ 1 ∷ 2 ∷ 3 ∷ 4 ∷ 5 ∷ 6 ∷ 7 ∷ []) past)
