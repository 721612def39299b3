-- What is counted of some threads of a node in a slot, and of all.
use Rattle.std.proofs.Common.{◌≡◌, ◌≢◌, ℕ, ◌+◌, ◌-◌, ◌^◌, ◌<◌, ◌≤◌, Bool, true, ◌==◌, ◌&&◌, List, [], length, set, sym, refl, ap, ◌∙◌, subst, arith}
use Rattle.std.specs.Prelude.{slice_index_or}
use Rattle.std.proofs.Math.Nat.{eq-or-lt_of_le}
use Rattle.std.proofs.Math.Logic.{⊎_elim}
use Rattle.std.proofs.Math.Bool.{and-true}
use Rattle.std.proofs.lemmas.List.{get_or-set_same, get_or-set_other}
use Rattle.xs_base.specs.declared.numbers.TheConstants.{THREADS}
use Rattle.sys_plan.specs.declared.NodePlan.{NodePlan}
use Rattle.sys_plan.specs.Plan.{PlanRec}
use Rattle.profile_model.specs.declared.TheConstants.{ISSUES, PAUSES, WAITS}
use Rattle.profile_model.specs.Sums.{one_if, how_many}
use Rattle.profile_model.specs.Counts.{char_at, place_at, is_one_of, threads_at, slots_shown, times_at}
use Rattle.run_counts.specs.declared.places.PlaceCounts.{PlaceCounts}
use Rattle.run_counts.specs.Tallies.{at, IsOneMore, HasRoom, HasPlaces, HasPlaceRoom, CountsPlace}
use Rattle.run_counts.specs.Counted.{AreThreads, ArePlaces}
use Rattle.run_counts.proofs.Sums.{sum-more, one-counted, how_many-few, sum-few}

-- ---- How a chart shows them

-- those below a thread have one slot more, as they are shown, and the others are as they were
pub record AreShownTo (char : ℕ → ℕ) (k : ℕ) (before after : List (List ℕ)) : Type 0 where
  pub done : (j c : ℕ) → j < k → at (slice_index_or after j []) c ≡ at (slice_index_or before j []) c + one_if (char j == c)
  pub rest : (j : ℕ) → k ≤ j → slice_index_or after j [] ≡ slice_index_or before j []

pub none-shown : (char : ℕ → ℕ) (threads : List (List ℕ)) → AreShownTo char 0 threads threads
none-shown char threads = record { done = λ j c h. absurd (omega (arith, h)); rest = λ j h. refl }

pub one-shown : (char : ℕ → ℕ) (k : ℕ) (before now : List (List ℕ)) (row : List ℕ) → AreShownTo char k before now → k < length now
    → IsOneMore true (char k) (slice_index_or now k []) row → AreShownTo char (k + 1) before (set now k row)
one-shown char k before now row shown within more =
    let other : (j : ℕ) → j ≢ k → slice_index_or (set now k row) j [] ≡ slice_index_or now j [] =
    λ j apart. get_or-set_other now k j row [] apart in
    let it : (c : ℕ) → at (slice_index_or (set now k row) k []) c ≡ at (slice_index_or before k []) c + one_if (char k == c) =
    λ c. ap (λ (xs : List ℕ). at xs c) (get_or-set_same now k row [] within) ∙ more c
    ∙ ap (λ (b : Bool). at (slice_index_or now k []) c + one_if b) (and-true (char k == c))
    ∙ ap (λ (xs : List ℕ). at xs c + one_if (char k == c)) (shown.rest k (omega arith)) in
    let last : (j c : ℕ) → j ≡ k → at (slice_index_or (set now k row) j []) c ≡ at (slice_index_or before j []) c + one_if (char j == c) =
    λ j c same. subst (λ (i : ℕ). at (slice_index_or (set now k row) i []) c ≡ at (slice_index_or before i []) c + one_if (char i == c)) (sym same) (it c) in
    let below : (j c : ℕ) → j < k → at (slice_index_or (set now k row) j []) c ≡ at (slice_index_or before j []) c + one_if (char j == c) =
    λ j c h. ap (λ (xs : List ℕ). at xs c) (other j (λ same. omega (arith, h, same))) ∙ shown.done j c h in
    record {
      done = λ j c h. ⊎_elim (last j c) (below j c) (eq-or-lt_of_le (omega (arith, h)));
      rest = λ j h. other j (λ same. omega (arith, h, same)) ∙ shown.rest j (omega (arith, h));
    }

-- ---- Where they are

-- a counter of each place has one more for each of the first threads that is there, and is shown by one of some characters
abbrev pub ArePlacedTo : (ℕ → ℕ) → (ℕ → ℕ) → List ℕ → ℕ → List ℕ → List ℕ → Type 0
ArePlacedTo place char chars k before after =
    (p : ℕ) → at after p ≡ at before p + how_many (λ j. (place j == p) && is_one_of chars (char j)) k

pub record AreCountedTo (place char : ℕ → ℕ) (k : ℕ) (before after : PlaceCounts) : Type 0 where
  pub issues : ArePlacedTo place char ISSUES k before.issues.items after.issues.items
  pub pauses : ArePlacedTo place char PAUSES k before.pauses.items after.pauses.items
  pub waits : ArePlacedTo place char WAITS k before.waits.items after.waits.items

none-placed : (place char : ℕ → ℕ) (chars : List ℕ) (counts : List ℕ) → ArePlacedTo place char chars 0 counts counts
none-placed place char chars counts p = omega arith

one-placed : (place char : ℕ → ℕ) (chars : List ℕ) (k : ℕ) (before now after : List ℕ) → ArePlacedTo place char chars k before now
    → IsOneMore (is_one_of chars (char k)) (place k) now after → ArePlacedTo place char chars (k + 1) before after
one-placed place char chars k before now after placed more p =
    one-counted (λ j. (place j == p) && is_one_of chars (char j)) k (at before p) (at now p) (at after p) (placed p) (more p)

pub none-counted : (place char : ℕ → ℕ) (counts : PlaceCounts) → AreCountedTo place char 0 counts counts
none-counted place char counts = record {
  issues = none-placed place char ISSUES counts.issues.items;
  pauses = none-placed place char PAUSES counts.pauses.items;
  waits = none-placed place char WAITS counts.waits.items;
}

pub one-more-counted : (place char : ℕ → ℕ) (k : ℕ) (before now after : PlaceCounts) → AreCountedTo place char k before now
    → CountsPlace (place k) (char k) now after → AreCountedTo place char (k + 1) before after
one-more-counted place char k before now after counted more = record {
  issues = one-placed place char ISSUES k before.issues.items now.issues.items after.issues.items counted.issues more.issues;
  pauses = one-placed place char PAUSES k before.pauses.items now.pauses.items after.pauses.items counted.pauses more.pauses;
  waits = one-placed place char WAITS k before.waits.items now.waits.items after.waits.items counted.waits more.waits;
}

-- ---- A slot more

module _ (plan : PlanRec) (slot n : ℕ) (node : NodePlan) where
  -- how the threads are shown in the slot, and where they are
  abbrev pub char : ℕ → ℕ
  char k = char_at plan n node k slot

  abbrev pub place : ℕ → ℕ
  place k = place_at plan n node k slot

  pub threads-counted : (before after : List (List ℕ)) → AreThreads plan slot n node before → AreShownTo char THREADS before after
      → AreThreads plan (slot + 1) n node after
  threads-counted before after counted shown k c within =
      omega (arith, counted k c within, shown.done k c within, sum-more (λ s. one_if (char_at plan n node k s == c)) slot)

  times-counted : (chars : List ℕ) (p before after : ℕ) → before ≡ times_at plan n node chars p slot
      → after ≡ before + how_many (λ j. (place j == p) && is_one_of chars (char j)) THREADS → after ≡ times_at plan n node chars p (slot + 1)
  times-counted chars p before after counted more = omega (arith, counted, more, sum-more (threads_at plan n node chars p) slot)

  pub places-counted : (before after : PlaceCounts) → ArePlaces plan slot n node before → AreCountedTo place char THREADS before after
      → HasPlaces after (length node.image.code + 1) → ArePlaces plan (slot + 1) n node after
  places-counted before after counted to places = record {
    places = places;
    issues = λ p. times-counted ISSUES p (at before.issues.items p) (at after.issues.items p) (counted.issues p) (to.issues p);
    pauses = λ p. times-counted PAUSES p (at before.pauses.items p) (at after.pauses.items p) (counted.pauses p) (to.pauses p);
    waits = λ p. times-counted WAITS p (at before.waits.items p) (at after.waits.items p) (counted.waits p) (to.waits p);
  }

  -- ---- Room

  pub thread-room : (before now : List (List ℕ)) (k : ℕ) → AreThreads plan slot n node before → AreShownTo char k before now → k < THREADS
      → slot < 2 ^ 32 → HasRoom (slice_index_or now k []) (char k)
  thread-room before now k counted shown within short =
      let here : at (slice_index_or now k []) (char k) ≡ slots_shown plan n node k (char k) slot =
      ap (λ (xs : List ℕ). at xs (char k)) (shown.rest k (omega arith)) ∙ counted k (char k) within in
      omega (arith, here, how_many-few (λ s. char_at plan n node k s == char k) slot, short)

  place-room : (chars : List ℕ) (p k before now : ℕ) → before ≡ times_at plan n node chars p slot
      → now ≡ before + how_many (λ j. (place j == p) && is_one_of chars (char j)) k → k < THREADS → slot < 2 ^ 32 → now < 2 ^ 64 - 1
  place-room chars p k before now counted more within short =
      let few : (s : ℕ) → threads_at plan n node chars p s ≤ 8 =
      λ s. how_many-few (λ j. (place_at plan n node j s == p) && is_one_of chars (char_at plan n node j s)) 8 in
      omega (arith, counted, more, sum-few (threads_at plan n node chars p) few slot, how_many-few (λ j. (place j == p) && is_one_of chars (char j)) k, within, short)

  pub places-room : (before now : PlaceCounts) (p k : ℕ) → ArePlaces plan slot n node before → AreCountedTo place char k before now → k < THREADS
      → slot < 2 ^ 32 → HasPlaceRoom now p
  places-room before now p k counted to within short = record {
    issues = place-room ISSUES p k (at before.issues.items p) (at now.issues.items p) (counted.issues p) (to.issues p) within short;
    pauses = place-room PAUSES p k (at before.pauses.items p) (at now.pauses.items p) (counted.pauses p) (to.pauses p) within short;
    waits = place-room WAITS p k (at before.waits.items p) (at now.waits.items p) (counted.waits p) (to.waits p) within short;
  }
