-- Threads as the bits of a mask and as a list in ascending order: who is among them, and one more.
use Rattle.std.proofs.Common.{ℕ, zero, suc, ◌≡◌, ◌≢◌, ◌+◌, ◌^◌, ◌*◌, ◌%◌, ◌<◌, ◌≤◌, Bool, true, false, not, cond, eqb, Option, Some, None, List, [], ◌∷◌, refl, ap, sym, subst, ◌∙◌, inl, inr, arith}
use Rattle.std.specs.Prelude.{filter, ◌==◌, ◌&&◌, bit_or}
use Rattle.std.specs.List.{list_any}
use Rattle.std.specs.Int.{w8}
use Rattle.std.specs.Option.{option_eq}
use Rattle.std.proofs.lemmas.Bool.{lt-ltb, le-ltb, eq-eqb, ne_eqb, eqb-true, cond-true, cond-false, cases_eq, not-false}
use Rattle.std.proofs.lemmas.Nat.Bits.{bit_at_set_same, bit_at_set_other}
use Rattle.std.proofs.lemmas.Map.Views.{any-filter_same}
use Rattle.xs_model.specs.Masks.{in_mask, members}
use Rattle.xs_model.specs.Record.{SyncRec}
use Rattle.xs_model.specs.Syncs.{with_slave, bound}
use Rattle.sync_locks.specs.Syncs.{sync_after}

-- m numbers from n on
abbrev upward : ℕ → ℕ → List ℕ
upward n zero = []
upward n (suc m) = n ∷ upward (suc n) m

-- ---- A thread comes among others, of which n may be one and the others are above n: below n, at n, and above n

first_step : (is_in : Bool) (k n : ℕ) (above : List ℕ) → k < n → with_slave k above ≡ k ∷ above → with_slave k (cond is_in (n ∷ above) above) ≡ k ∷ cond is_in (n ∷ above) above
unfolding with_slave
first_step true k n above lt first = cond-true _ _ _ (lt-ltb k n lt)
first_step false k n above lt first = first

with_itself : (is_in : Bool) (k : ℕ) (above : List ℕ) → with_slave k above ≡ k ∷ above → with_slave k (cond is_in (k ∷ above) above) ≡ k ∷ above
unfolding with_slave
with_itself true k above first = cond-false _ _ _ (le-ltb k k (omega arith)) ∙ cond-true _ _ _ (eq-eqb k k refl)
with_itself false k above first = first

with_later : (is_in : Bool) (k n : ℕ) (above : List ℕ) → n < k → with_slave k (cond is_in (n ∷ above) above) ≡ cond is_in (n ∷ with_slave k above) (with_slave k above)
unfolding with_slave
with_later true k n above lt =
    cond-false _ _ _ (le-ltb k n (omega arith)) ∙ cond-false _ _ _ (ne_eqb k n (λ e. omega arith))
with_later false k n above lt = refl

-- a thread below all others comes first
first_with : (p : ℕ → Bool) (k n m : ℕ) → k < n → with_slave k (filter p (upward n m)) ≡ k ∷ filter p (upward n m)
unfolding with_slave
first_with p k n zero lt = refl
first_with p k n (suc m) lt =
    first_step (p n) k n (filter p (upward (suc n) m)) lt (first_with p k (suc n) m (omega arith))

-- two tests that agree from n on
same_filter : (p q : ℕ → Bool) (n m : ℕ) → ((j : ℕ) → n ≤ j → q j ≡ p j) → filter q (upward n m) ≡ filter p (upward n m)
same_filter p q n zero same = refl
same_filter p q n (suc m) same =
    let above : List ℕ = filter q (upward (suc n) m) in
    ap (λ b. cond b (n ∷ above) above) (same n (omega arith)) ∙ ap (λ l. cond (p n) (n ∷ l) l) (same_filter p q (suc n) m (λ j le. same j (omega arith)))

-- two tests that agree but at k, where the second holds
one_here : (p q : ℕ → Bool) (k m : ℕ) → q k ≡ true → ((j : ℕ) → j ≢ k → q j ≡ p j) → filter q (upward k (suc m)) ≡ with_slave k (filter p (upward k (suc m)))
one_here p q k m is others =
    let rest : filter q (upward (suc k) m) ≡ filter p (upward (suc k) m) =
    same_filter p q (suc k) m (λ j le. others j (λ e. omega arith))
    in
    cond-true _ _ _ is ∙ ap (λ l. k ∷ l) rest ∙ sym (with_itself (p k) k (filter p (upward (suc k) m)) (first_with p k (suc k) m (omega arith)))

one_more : (p q : ℕ → Bool) (k n m : ℕ) → n ≤ k → k < n + m → q k ≡ true → ((j : ℕ) → j ≢ k → q j ≡ p j) → filter q (upward n m) ≡ with_slave k (filter p (upward n m))
one_more p q k n zero low high is others = absurd (omega arith)
one_more p q k n (suc m) low high is others =
    elim (cases_eq k n) [
      | inl e ↦ subst (λ j. filter q (upward j (suc m)) ≡ with_slave k (filter p (upward j (suc m)))) e (one_here p q k m is others)
      | inr ne ↦
          let above : List ℕ = filter q (upward (suc n) m) in
          ap (λ b. cond b (n ∷ above) above) (others n (λ e. ne (sym e))) ∙ ap (λ l. cond (p n) (n ∷ l) l) (one_more p q k (suc n) m (omega arith) (omega arith) is others) ∙ sym (with_later (p n) k n (filter p (upward (suc n) m)) (omega arith))
    ]

-- the members of a mask with one more bit
pub members_with : (mask k : ℕ) → k < 8 → members (bit_or mask (1 * 2 ^ k % 256)) ≡ with_slave k (members mask)
members_with mask k within =
    one_more (in_mask mask) (in_mask (bit_or mask (1 * 2 ^ k % 256))) k 0 8 (omega arith) within (ap (λ b. eqb b 1) (bit_at_set_same w8 mask k within)) (λ j ne. ap (λ b. eqb b 1) (bit_at_set_other w8 mask k within j ne))

-- ---- Who is a member of a mask

one_of_eight : (k : ℕ) → k < 8 → list_any (λ slave. slave == k) (0 ∷ 1 ∷ 2 ∷ 3 ∷ 4 ∷ 5 ∷ 6 ∷ 7 ∷ []) ≡ true
one_of_eight zero h = refl
one_of_eight (suc zero) h = refl
one_of_eight (suc (suc zero)) h = refl
one_of_eight (suc (suc (suc zero))) h = refl
one_of_eight (suc (suc (suc (suc zero)))) h = refl
one_of_eight (suc (suc (suc (suc (suc zero))))) h = refl
one_of_eight (suc (suc (suc (suc (suc (suc zero)))))) h = refl
one_of_eight (suc (suc (suc (suc (suc (suc (suc zero))))))) h = refl
one_of_eight (suc (suc (suc (suc (suc (suc (suc (suc k)))))))) h = absurd (omega arith)

and_true : (b : Bool) → (b && true) ≡ b
and_true true = refl
and_true false = refl

pub is_member : (mask k : ℕ) → k < 8 → in_mask mask k ≡ list_any (λ slave. slave == k) (members mask)
is_member mask k within =
    sym (any-filter_same (λ slave. slave == k) (in_mask mask) (in_mask mask k) (λ j e. ap (λ i. in_mask mask i) (eqb-true j k e)) (0 ∷ 1 ∷ 2 ∷ 3 ∷ 4 ∷ 5 ∷ 6 ∷ 7 ∷ []) ∙ ap (λ b. in_mask mask k && b) (one_of_eight k within) ∙ and_true (in_mask mask k))

-- ---- One slave more, where the thread is the master

abbrev with_mask : Option ℕ → ℕ → SyncRec
with_mask master mask = record { master = master; slaves = members mask }

pub bound_after : (by slave mask : ℕ) (master : Option ℕ) → slave < 8 → not (option_eq eqb master (Some by)) ≡ false → with_mask master (bit_or mask (1 * 2 ^ slave % 256)) ≡ sync_after (with_mask master mask) (bound by slave (with_mask master mask))
bound_after by slave mask None within is = cc
bound_after by slave mask (Some master) within is =
    rw (not-false (eqb master by) is) (ap (λ l. let sync : SyncRec = record { master = Some master; slaves = l } in sync) (members_with mask slave within))
