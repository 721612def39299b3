-- The places of a list whose items pass a test.
use Rattle.std.proofs.Common.{ℕ, zero, suc, ◌≡◌, ◌+◌, Bool, true, false, List, [], ◌∷◌, ◌++◌, map, Some, refl, sym, ap, subst, ◌∙◌, inl, inr, ◌⊎◌, arith}
use Rattle.std.specs.Prelude.{slice_get, if◌then◌else◌, Contains}
use Rattle.std.proofs.lemmas.Bool.{false≢true}
use Rattle.std.proofs.lemmas.List.Elements.{Contains-append_left, Contains-append_right, Contains-append_cases}
use Rattle.xs_base.specs.Numbers.{Position, ThreadNumber, InputNumber}
use Rattle.xs_model.specs.declared.thread.Thread.{Thread}
use Rattle.switch_routes.specs.declared.state.InputState.{InputState}
use Rattle.look_model.specs.Waits.{is_missing, missing_from}
use Rattle.look_model.specs.WaitGraph.{thread_at, input_at, inputs_where}

-- a place, where a test passes
abbrev pub place_if : Bool → ℕ → List ℕ
place_if passes v = if passes then v ∷ [] else []

abbrev pub places : {X : Type 0} → (ℕ → X → Bool) → (ℕ → ℕ) → ℕ → List X → List ℕ
places test name from [] = []
places test name from (x ∷ xs) = place_if (test from x) (name from) ++ places test name (from + 1) xs

-- the item at a place that passes
pub record Passes {X : Type 0} (test : ℕ → X → Bool) (name : ℕ → ℕ) (from : ℕ) (xs : List X) (v : ℕ) : Type 0 where
  pub at : ℕ
  pub item : X
  pub there : slice_get xs at ≡ Some item
  pub is : v ≡ name (from + at)
  pub passes : test (from + at) item ≡ true

only : (a v : ℕ) → Contains (a ∷ []) v → v ≡ a
only a v (zero, low, same) = sym same
only a v (suc k, low, same) = absurd (omega (arith, low))

none : (v : ℕ) → Contains {X = ℕ} [] v → ⊥
none v (k, low, same) = omega (arith, low)

place_of : (passes : Bool) (a v : ℕ) → Contains (place_if passes a) v → (passes ≡ true) × (v ≡ a)
place_of true a v has = (refl, only a v has)
place_of false a v has = absurd (none v has)

placed : (passes : Bool) (a : ℕ) → passes ≡ true → Contains (place_if passes a) a
placed true a passes = (0, omega arith, refl)
placed false a passes = absurd (false≢true passes)

module _ {X : Type 0} (test : ℕ → X → Bool) (name : ℕ → ℕ) where
  pub comes : (from : ℕ) (xs : List X) (v : ℕ) → Contains (places test name from xs) v → Passes test name from xs v
  comes from [] v has = absurd (none v has)
  comes from (x ∷ xs) v has = by_case (comes (from + 1) xs v) (Contains-append_cases (place_if (test from x) (name from)) (places test name (from + 1) xs) v has)
    where
      e : from + 0 ≡ from
      e = omega arith

      by_case : (Contains (places test name (from + 1) xs) v → Passes test name (from + 1) xs v) → Contains (place_if (test from x) (name from)) v ⊎ Contains (places test name (from + 1) xs) v → Passes test name from (x ∷ xs) v
      by_case rest (inl here) =
          let it = place_of (test from x) (name from) v here in
          record { at = 0; item = x; there = refl; is = it.1 ∙ ap name (sym e); passes = ap (λ (m : ℕ). test m x) e ∙ it.0 }
      by_case rest (inr later) =
          let it = rest later in
          let f : from + 1 + it.at ≡ from + suc it.at = omega arith in
          record { at = suc it.at; item = it.item; there = it.there; is = it.is ∙ ap name f; passes = ap (λ (m : ℕ). test m it.item) (sym f) ∙ it.passes }

  pub stands : (from : ℕ) (xs : List X) (j : ℕ) (x : X) → slice_get xs j ≡ Some x → test (from + j) x ≡ true → Contains (places test name from xs) (name (from + j))
  stands from [] j x there passes = cc
  stands from (first ∷ xs) zero x there passes =
      let e : from + 0 ≡ from = omega arith in
      let same : first ≡ x = cc in
      let here : test from first ≡ true = ap (λ (m : ℕ). test m first) (sym e) ∙ ap (test (from + 0)) same ∙ passes in
      subst (λ (m : ℕ). Contains (places test name from (first ∷ xs)) (name m)) (sym e)
      (Contains-append_left (place_if (test from first) (name from)) (places test name (from + 1) xs) (name from) (placed (test from first) (name from) here))
  stands from (first ∷ xs) (suc j) x there passes =
      let f : from + 1 + j ≡ from + suc j = omega arith in
      subst (λ (m : ℕ). Contains (places test name from (first ∷ xs)) (name m)) f
      (Contains-append_right (place_if (test from first) (name from)) (places test name (from + 1) xs) (name (from + 1 + j))
      (stands (from + 1) xs j x there (ap (λ (m : ℕ). test m x) f ∙ passes)))

pub of_inputs : (test : InputState → Bool) (n : Position) (from : InputNumber) (inputs : List InputState)
    → inputs_where test n from inputs ≡ places (λ i now. test now) (input_at n) from inputs
of_inputs test n from [] = refl
of_inputs test n from (now ∷ inputs) = ap (λ (rest : List ℕ). place_if (test now) (input_at n from) ++ rest) (of_inputs test n (from + 1) inputs)

map_place : (name : ℕ → ℕ) (passes : Bool) (a : ℕ) (rest : List ℕ) → map name (place_if passes a ++ rest) ≡ place_if passes (name a) ++ map name rest
map_place name true a rest = refl
map_place name false a rest = refl

pub of_missing : (slaves : ℕ) (n : Position) (from : ThreadNumber) (threads : List Thread)
    → map (thread_at n) (missing_from slaves from threads) ≡ places (is_missing slaves) (thread_at n) from threads
of_missing slaves n from [] = refl
of_missing slaves n from (th ∷ threads) =
    map_place (thread_at n) (is_missing slaves from th) from (missing_from slaves (from + 1) threads)
    ∙ ap (λ (rest : List ℕ). place_if (is_missing slaves from th) (thread_at n from) ++ rest) (of_missing slaves n (from + 1) threads)
