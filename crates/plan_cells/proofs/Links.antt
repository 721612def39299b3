-- The arcs that pass a test, by number.
use Rattle.std.proofs.Common.{◌≡◌, ℕ, zero, suc, ◌+◌, Bool, true, false, cond, Some, List, [], ◌∷◌, ◌++◌, length, slice_get, refl, sym, ap, ◌∙◌, arith, inl, inr}
use mathlib.Core.Logic.{◌⊎◌}
use Rattle.std.proofs.lemmas.Bool.{cases_Bool}
use Rattle.std.proofs.lemmas.Option.{none-some, same_Some}
use Rattle.xs_base.specs.Numbers.{EndNumber, LinkNumber}
use Rattle.sys_plan.specs.Plan.{Arc}
use Rattle.plan_cells.specs.Ends.{LinkAt, links_by}

-- ---- One more arc, behind the others

push_both : (b : Bool) (p q : LinkAt) (long short : List LinkAt) → long ≡ short ++ q ∷ [] → cond b (p ∷ long) long ≡ cond b (p ∷ short) short ++ q ∷ []
push_both true p q long short e = λ i. p ∷ e i
push_both false p q long short e = e

same_both : (b : Bool) (p : LinkAt) (long short : List LinkAt) → long ≡ short → cond b (p ∷ long) long ≡ cond b (p ∷ short) short
same_both true p long short e = λ i. p ∷ e i
same_both false p long short e = e

module _ (test : Arc → Bool) (end : Arc → EndNumber) where
  -- it passes
  pub one_more : (ds : List Arc) (d : Arc) (k : LinkNumber) → test d ≡ true → links_by test end k (ds ++ d ∷ []) ≡ links_by test end k ds ++ (end d, k + length ds) ∷ []
  one_more [] d k hit =
      let more : k ≡ k + 0 = omega arith in
      ap (λ b. cond b ((end d, k) ∷ []) []) hit ∙ (λ i. (end d, more i) ∷ [])
  one_more (x ∷ ds) d k hit =
      let more : k + 1 + length ds ≡ k + suc (length ds) = omega arith in
      push_both (test x) (end x, k) (end d, k + suc (length ds)) (links_by test end (k + 1) (ds ++ d ∷ [])) (links_by test end (k + 1) ds)
      (one_more ds d (k + 1) hit ∙ (λ i. links_by test end (k + 1) ds ++ (end d, more i) ∷ []))

  -- it doesn't
  pub no_more : (ds : List Arc) (d : Arc) (k : LinkNumber) → test d ≡ false → links_by test end k (ds ++ d ∷ []) ≡ links_by test end k ds
  no_more [] d k miss = ap (λ b. cond b ((end d, k) ∷ []) []) miss
  no_more (x ∷ ds) d k miss =
      same_both (test x) (end x, k) (links_by test end (k + 1) (ds ++ d ∷ [])) (links_by test end (k + 1) ds) (no_more ds d (k + 1) miss)

  -- ---- What stands among the links is one that passes the test

  pub record Passes (k : LinkNumber) (ds : List Arc) (at : LinkAt) : Type 0 where
    pub place : ℕ
    pub arc : Arc
    pub here : slice_get ds place ≡ Some arc
    pub passes : test arc ≡ true
    pub end_is : end arc ≡ at.0
    pub number : at.1 ≡ k + place

  later : (x : Arc) (ds : List Arc) (k : LinkNumber) (at : LinkAt) → Passes (k + 1) ds at → Passes k (x ∷ ds) at
  later x ds k at p = record { place = suc p.place; arc = p.arc; here = p.here; passes = p.passes; end_is = p.end_is; number = omega (arith, p.number) }

  at_head : (x : Arc) (ds : List Arc) (k : LinkNumber) (at : LinkAt) → test x ≡ true → (end x, k) ≡ at → Passes k (x ∷ ds) at
  at_head x ds k at hit e = record { place = 0; arc = x; here = refl; passes = hit; end_is = ap (λ (p : LinkAt). p.0) e; number = omega (arith, ap (λ (p : LinkAt). p.1) e) }

  -- where it stands, as the first passes or not
  head_or_later : (x : Arc) (ds : List Arc) (k : LinkNumber) (at : LinkAt) (j : ℕ) → ((i : ℕ) → slice_get (links_by test end (k + 1) ds) i ≡ Some at → Passes (k + 1) ds at)
      → test x ≡ true → slice_get ((end x, k) ∷ links_by test end (k + 1) ds) j ≡ Some at → Passes k (x ∷ ds) at
  head_or_later x ds k at zero rest hit h = at_head x ds k at hit (same_Some (end x, k) at h)
  head_or_later x ds k at (suc j) rest hit h = later x ds k at (rest j h)

  by_test : (x : Arc) (ds : List Arc) (k : LinkNumber) (at : LinkAt) (j : ℕ) → ((i : ℕ) → slice_get (links_by test end (k + 1) ds) i ≡ Some at → Passes (k + 1) ds at)
      → slice_get (links_by test end k (x ∷ ds)) j ≡ Some at → (test x ≡ true) ⊎ (test x ≡ false) → Passes k (x ∷ ds) at
  by_test x ds k at j rest h (inl hit) =
      head_or_later x ds k at j rest hit (ap (λ b. slice_get (cond b ((end x, k) ∷ links_by test end (k + 1) ds) (links_by test end (k + 1) ds)) j) (sym hit) ∙ h)
  by_test x ds k at j rest h (inr miss) =
      later x ds k at (rest j (ap (λ b. slice_get (cond b ((end x, k) ∷ links_by test end (k + 1) ds) (links_by test end (k + 1) ds)) j) (sym miss) ∙ h))

  pub passes_at : (ds : List Arc) (k : LinkNumber) (at : LinkAt) (j : ℕ) → slice_get (links_by test end k ds) j ≡ Some at → Passes k ds at
  passes_at [] k at j h = absurd (none-some at h)
  passes_at (x ∷ ds) k at j h = by_test x ds k at j (λ i here. passes_at ds (k + 1) at i here) h (cases_Bool (test x))

  -- ---- And each that passes it stands among them

  abbrev Stands : LinkNumber → List Arc → LinkAt → Type 0
  Stands k ds at = (j : ℕ) × (slice_get (links_by test end k ds) j ≡ Some at)

  behind : (x : Arc) (ds : List Arc) (k : LinkNumber) (at : LinkAt) → (test x ≡ true) ⊎ (test x ≡ false) → Stands (k + 1) ds at → Stands k (x ∷ ds) at
  behind x ds k at (inl hit) s = (suc s.0, ap (λ b. slice_get (cond b ((end x, k) ∷ links_by test end (k + 1) ds) (links_by test end (k + 1) ds)) (suc s.0)) hit ∙ s.1)
  behind x ds k at (inr miss) s = (s.0, ap (λ b. slice_get (cond b ((end x, k) ∷ links_by test end (k + 1) ds) (links_by test end (k + 1) ds)) s.0) miss ∙ s.1)

  pub stands : (ds : List Arc) (k : LinkNumber) (m : ℕ) (d : Arc) → slice_get ds m ≡ Some d → test d ≡ true → (j : ℕ) × (slice_get (links_by test end k ds) j ≡ Some (end d, k + m))
  stands [] k m d h hit = absurd (none-some d h)
  stands (x ∷ ds) k zero d h hit =
      let same = same_Some x d h in
      let none : k ≡ k + 0 = omega arith in
      let hit_x : test x ≡ true = ap test same ∙ hit in
      (0, ap (λ b. slice_get (cond b ((end x, k) ∷ links_by test end (k + 1) ds) (links_by test end (k + 1) ds)) 0) hit_x ∙ (λ i. Some (end (same i), none i)))
  stands (x ∷ ds) k (suc m) d h hit =
      let rest = stands ds (k + 1) m d h hit in
      let more : k + 1 + m ≡ k + suc m = omega arith in
      behind x ds k (end d, k + suc m) (cases_Bool (test x)) (rest.0, rest.1 ∙ (λ i. Some (end d, more i)))

  -- ---- Each number stands among them once

  abbrev Once : LinkNumber → List Arc → Type 0
  Once k ds = (i j : ℕ) (a b : LinkAt) → slice_get (links_by test end k ds) i ≡ Some a → slice_get (links_by test end k ds) j ≡ Some b → a.1 ≡ b.1 → i ≡ j

  -- the first has a lesser number than those behind it
  above : (ds : List Arc) (k : LinkNumber) (a : LinkAt) (j : ℕ) → slice_get (links_by test end (k + 1) ds) j ≡ Some a → a.1 ≡ k → ⊥
  above ds k a j h same = let p = passes_at ds (k + 1) a j h in absurd (omega (arith, p.number, same))

  once_behind : (x : Arc) (ds : List Arc) (k : LinkNumber) → Once (k + 1) ds → (i j : ℕ) (a b : LinkAt) → slice_get ((end x, k) ∷ links_by test end (k + 1) ds) i ≡ Some a → slice_get ((end x, k) ∷ links_by test end (k + 1) ds) j ≡ Some b → a.1 ≡ b.1 → i ≡ j
  once_behind x ds k rest zero zero a b at_i at_j same = refl
  once_behind x ds k rest zero (suc j) a b at_i at_j same =
      let first : k ≡ a.1 = ap (λ (p : LinkAt). p.1) (same_Some (end x, k) a at_i) in
      absurd (above ds k b j at_j (sym same ∙ sym first))
  once_behind x ds k rest (suc i) zero a b at_i at_j same =
      let first : k ≡ b.1 = ap (λ (p : LinkAt). p.1) (same_Some (end x, k) b at_j) in
      absurd (above ds k a i at_i (same ∙ sym first))
  once_behind x ds k rest (suc i) (suc j) a b at_i at_j same = ap (λ n. suc n) (rest i j a b at_i at_j same)

  once_by_test : (x : Arc) (ds : List Arc) (k : LinkNumber) → Once (k + 1) ds → (test x ≡ true) ⊎ (test x ≡ false) → Once k (x ∷ ds)
  once_by_test x ds k rest (inl hit) i j a b at_i at_j same =
      let at = λ (n : ℕ) (c : Bool). slice_get (cond c ((end x, k) ∷ links_by test end (k + 1) ds) (links_by test end (k + 1) ds)) n in
      once_behind x ds k rest i j a b (ap (at i) (sym hit) ∙ at_i) (ap (at j) (sym hit) ∙ at_j) same
  once_by_test x ds k rest (inr miss) i j a b at_i at_j same =
      let at = λ (n : ℕ) (c : Bool). slice_get (cond c ((end x, k) ∷ links_by test end (k + 1) ds) (links_by test end (k + 1) ds)) n in
      rest i j a b (ap (at i) (sym miss) ∙ at_i) (ap (at j) (sym miss) ∙ at_j) same

  pub once : (ds : List Arc) (k : LinkNumber) (i j : ℕ) (a b : LinkAt) → slice_get (links_by test end k ds) i ≡ Some a → slice_get (links_by test end k ds) j ≡ Some b → a.1 ≡ b.1 → i ≡ j
  once [] k i j a b at_i at_j same = absurd (none-some a at_i)
  once (x ∷ ds) k i j a b at_i at_j same = once_by_test x ds k (once ds (k + 1)) (cases_Bool (test x)) i j a b at_i at_j same
