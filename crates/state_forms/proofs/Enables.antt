-- The law of what resources give.
use Rattle.std.proofs.Common.{◌≡◌, ℕ, ◌+◌, ◌-◌, ◌<◌, IsTrue, false, ltb, eqb, List, length, Option, Some, None}
use Rattle.std.proofs.Common.{refl, sym, ap, subst, arith, inl, inr}
use Rattle.std.proofs.lemmas.Bool.{ltb-true, cases_lt, cases_eq, ne_eqb, lt-ltb, le-ltb}
use Rattle.std.proofs.lemmas.List.Elements.{All-from_recursion, recursion_from_All}
use Rattle.std.specs.Prelude.{IfSome}
use Rattle.std.specs.List.{All}
use Rattle.event_unit.specs.declared.state.EnableState.{EnableState}
use Rattle.event_unit.specs.States.{IsEnableState, AreEnableStates}
use Rattle.byte_forms.specs.Forms.{repeat}
use Rattle.byte_forms.specs.Laws.{Lawful}
use Rattle.byte_forms.proofs.Fields.{byte-lawful, word-lawful}
use Rattle.byte_forms.proofs.Parts.{both-lawful, below-lawful, flag-lawful, seen-lawful, seen-lawful-where}
use Rattle.state_forms.proofs.Holding.{flag_holds, repeat_holds, repeat_of, each_as}
use Rattle.state_forms.specs.Enables.{thread_before, byte_after, enabler, enable_of_fields, enable_fields, enable}

-- ---- Who enabled a resource

byte_back : (n : ℕ) → IsTrue (ltb n 9) → byte_after (thread_before n) ≡ n
byte_back n h =
    let few = ltb-true n 9 h in
    elim (cases_eq n 0) [
      | inl none ↦ rw none refl
      | inr some ↦
          let lt : n - 1 < 8 = omega arith in
          let same : n - 1 + 1 ≡ n = omega arith in
          rw (ne_eqb n 0 some, lt-ltb (n - 1) 8 lt) same
    ]

thread_again : (by : Option ℕ) → IsTrue (ltb (byte_after by) 9) → thread_before (byte_after by) ≡ by
thread_again None h = refl
thread_again (Some k) h =
    elim (cases_lt k 8) [
      | inl lt ↦
          let some : eqb (k + 1) 0 ≡ false = ne_eqb (k + 1) 0 (λ e. omega arith) in
          let same : k + 1 - 1 ≡ k = omega arith in
          rw (lt-ltb k 8 lt, some) (ap (λ (n : ℕ). Some n) same)
      | inr le ↦
          let no : ltb k 8 ≡ false = le-ltb k 8 le in
          let read : IsTrue (ltb 255 9) = rw no at h in
          absurd cc
    ]

pub enabler-lawful : Lawful enabler
unfolding enabler
enabler-lawful = seen-lawful-where thread_before byte_after (below-lawful 9 byte-lawful) (λ n h. byte_back n h.1) (λ by h. thread_again by h.1)

-- ---- What a resource gives

pub enable-lawful : Lawful enable
unfolding enable
enable-lawful =
    seen-lawful enable_of_fields enable_fields (both-lawful word-lawful (λ vector. both-lawful word-lawful (λ env. both-lawful flag-lawful (λ interrupt. enabler-lawful))))
    (λ p h. refl) (λ state. refl)

-- ---- Which have the form: those that a thread enabled, or none

enabler_holds : (by : Option ℕ) → enabler.Holds by → IfSome by (λ k. k < 8)
unfolding enabler
enabler_holds None h = tt
enabler_holds (Some k) h =
    elim (cases_lt k 8) [
      | inl lt ↦ lt
      | inr le ↦
          let no : ltb k 8 ≡ false = le-ltb k 8 le in
          let read : IsTrue (ltb 255 9) = rw no at h.1 in
          absurd cc
    ]

enabler_of : (by : Option ℕ) → IfSome by (λ k. k < 8) → enabler.Holds by
unfolding enabler
enabler_of None h = (omega arith, refl)
enabler_of (Some k) h =
    let here : byte_after (Some k) ≡ k + 1 = rw (lt-ltb k 8 h) refl in
    subst (λ (n : ℕ). (n < 256) × IsTrue (ltb n 9)) (sym here) (omega arith, lt-ltb (k + 1) 9 (omega arith))

pub enable_holds : (state : EnableState) → enable.Holds state → IsEnableState state
unfolding enable
enable_holds state h = enabler_holds state.by h.1.1.1

pub enable_of : (state : EnableState) → state.vector < 4294967296 → state.env < 4294967296 → IsEnableState state → enable.Holds state
unfolding enable
enable_of state vector env h = (vector, (env, (flag_holds state.interrupt, enabler_of state.by h)))

pub enables_hold : (n : ℕ) (states : List EnableState) → (repeat n enable).Holds states → AreEnableStates states
enables_hold n states h = All-from_recursion IsEnableState states (each_as enable_holds states (repeat_holds enable n states h))

pub enables_of : (n : ℕ) (states : List EnableState) → length states ≡ n
    → All (λ (state : EnableState). (state.vector < 4294967296) × (state.env < 4294967296)) states → AreEnableStates states
    → (repeat n enable).Holds states
enables_of n states len fits h =
    let both : All (λ (state : EnableState). ((state.vector < 4294967296) × (state.env < 4294967296)) × IsEnableState state) states = λ k d lt. (fits k d lt, h k d lt) in
    repeat_of enable n states len (each_as (λ state k. enable_of state k.0.0 k.0.1 k.1) states
    (recursion_from_All (λ (state : EnableState). ((state.vector < 4294967296) × (state.env < 4294967296)) × IsEnableState state) states both))
