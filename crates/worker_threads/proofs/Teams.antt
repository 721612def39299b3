-- What holds of all nodes, by position, and how a loop over them keeps it.
use Rattle.std.proofs.Common.{◌≡◌, ℕ, zero, suc, ◌+◌, ◌<◌, Bool, true, false, true≢false, ◌||◌, take, List, [], ◌∷◌, ◌++◌, length, set, Some, slice_get, refl, sym, ap, ◌∙◌, subst, arith}
use Rattle.std.specs.List.{AllByRecursion}
use Rattle.std.proofs.lemmas.List.{length_push}
use Rattle.std.proofs.lemmas.Option.{none-some, same_Some}
use Rattle.xs_base.specs.Numbers.{Position}
use Rattle.worker_threads.specs.declared.place.Place.{Place}
use Rattle.worker_threads.specs.Team.{AllFrom, has_turns, some_have_turns, HasNoTurns}

module _ {X : Type 0} (P : Position → X → Type 0) where
  -- from what stands at each position, and back
  from_places : (n : Position) (xs : List X) → ((k : ℕ) (x : X) → slice_get xs k ≡ Some x → P (k + n) x) → AllFrom n P xs
  from_places n [] at = tt
  from_places n (x ∷ xs) at = (subst (λ m. P m x) (omega arith) (at zero x refl), from_places (suc n) xs (λ k y is. subst (λ m. P m y) (omega arith) (at (suc k) y is)))

  pub from_each : (xs : List X) → ((k : ℕ) (x : X) → slice_get xs k ≡ Some x → P k x) → AllFrom 0 P xs
  from_each xs at = from_places 0 xs (λ k x is. subst (λ m. P m x) (omega arith) (at k x is))

  at_place : (n : Position) (xs : List X) (k : ℕ) (x : X) → AllFrom n P xs → slice_get xs k ≡ Some x → P (k + n) x
  at_place n [] k x all is = absurd (none-some x is)
  at_place n (y ∷ xs) zero x all is = subst (λ m. P m x) (omega arith) (subst (P n) (same_Some y x is) all.0)
  at_place n (y ∷ xs) (suc k) x all is = subst (λ m. P m x) (omega arith) (at_place (suc n) xs k x all.1 is)

  pub at_each : (xs : List X) (k : ℕ) (x : X) → AllFrom 0 P xs → slice_get xs k ≡ Some x → P k x
  at_each xs k x all is = subst (λ m. P m x) (omega arith) (at_place 0 xs k x all is)

  -- one more behind the others
  push_from : (n : Position) (xs : List X) (x : X) → AllFrom n P xs → P (length xs + n) x → AllFrom n P (xs ++ x ∷ [])
  push_from n [] x all here = (subst (λ m. P m x) (omega arith) here, tt)
  push_from n (y ∷ xs) x all here = (all.0, push_from (suc n) xs x all.1 (subst (λ m. P m x) (omega arith) here))

  -- one becomes another
  set_from : (n : Position) (xs : List X) (k : ℕ) (old new : X) → slice_get xs k ≡ Some old → ((m : Position) → P m old → P m new) → AllFrom n P xs → AllFrom n P (set xs k new)
  set_from n [] k old new is gives all = tt
  set_from n (y ∷ xs) zero old new is gives all = (gives n (subst (P n) (same_Some y old is) all.0), all.1)
  set_from n (y ∷ xs) (suc k) old new is gives all = (all.0, set_from (suc n) xs k old new is gives all.1)

  pub one_becomes : (xs now : List X) (k : ℕ) (old new : X) → slice_get xs k ≡ Some old → now ≡ set xs k new → ((m : Position) → P m old → P m new) → AllFrom 0 P xs → AllFrom 0 P now
  one_becomes xs now k old new is same gives all = subst (AllFrom 0 P) (sym same) (set_from 0 xs k old new is gives all)

  -- a loop that takes one after the other has none done at first; then it takes the first of those that are left
  pub none_done : (done : List X) → done ≡ [] → AllFrom 0 P done
  none_done done none = subst (AllFrom 0 P) (sym none) tt

  pub all_left : {Y : Type 0} (done : List Y) (rest all : List X) → done ≡ [] → rest ≡ all → AllFrom 0 P all → AllFrom (length done) P rest
  all_left {Y} done rest all none is each =
      subst (λ (xs : List X). AllFrom (length done) P xs) (sym is) (subst (λ n. AllFrom n P all) (sym (ap (length {A = Y}) none)) each)

  pub first_left : (n : Position) (rest after : List X) (x : X) → rest ≡ x ∷ after → AllFrom n P rest → P n x × AllFrom (suc n) P after
  first_left n rest after x is all = subst (AllFrom n P) is all

  pub one_done : (done now : List X) (x : X) → now ≡ done ++ x ∷ [] → AllFrom 0 P done → P (length done) x → AllFrom 0 P now
  one_done done now x is all here = subst (AllFrom 0 P) (sym is) (push_from 0 done x all (subst (λ m. P m x) (omega arith) here))

  pub fewer_left : {Y : Type 0} (done now : List Y) (y : Y) (after : List X) → now ≡ done ++ y ∷ [] → AllFrom (suc (length done)) P after → AllFrom (length now) P after
  fewer_left {Y} done now y after is all = subst (λ n. AllFrom n P after) (omega (arith, ap (length {A = Y}) is, length_push done y)) all

module _ {X : Type 0} (P : X → Type 0) where
  set_all : (xs : List X) (k : ℕ) (x : X) → P x → AllByRecursion P xs → AllByRecursion P (set xs k x)
  set_all [] k x here all = tt
  set_all (y ∷ xs) zero x here all = (here, all.1)
  set_all (y ∷ xs) (suc k) x here all = (all.0, set_all xs k x here all.1)

  pub still_all : (xs now : List X) (k : ℕ) (x : X) → now ≡ set xs k x → P x → AllByRecursion P xs → AllByRecursion P now
  still_all xs now k x is here all = subst (AllByRecursion P) (sym is) (set_all xs k x here all)

  pub each_is : (xs : List X) (k : ℕ) (x : X) → slice_get xs k ≡ Some x → AllByRecursion P xs → P x
  each_is [] k x is all = absurd (none-some x is)
  each_is (y ∷ xs) zero x is all = subst P (same_Some y x is) all.0
  each_is (y ∷ xs) (suc k) x is all = each_is xs k x is all.1

  push_all : (xs : List X) (x : X) → AllByRecursion P xs → P x → AllByRecursion P (xs ++ x ∷ [])
  push_all [] x all here = (here, tt)
  push_all (y ∷ xs) x all here = (all.0, push_all xs x all.1 here)

  pub one_more : (xs now : List X) (x : X) → now ≡ xs ++ x ∷ [] → AllByRecursion P xs → P x → AllByRecursion P now
  one_more xs now x is all here = subst (AllByRecursion P) (sym is) (push_all xs x all here)

-- ---- Which places have turns for the caller to take

-- one more was turned
or_swap : (a b c : Bool) → (a || (b || c)) ≡ (b || (a || c))
or_swap true true c = refl
or_swap true false c = refl
or_swap false true c = refl
or_swap false false c = refl

one_turned : (places : List Place) (n : ℕ) (place : Place) → n < length places
    → some_have_turns (take (suc n) (set places n place)) ≡ (has_turns place || some_have_turns (take n places))
one_turned [] n place inside = absurd (omega (arith, inside))
one_turned (p ∷ places) zero place inside = refl
one_turned (p ∷ places) (suc n) place inside =
    ap (λ b. has_turns p || b) (one_turned places n place (omega (arith, inside))) ∙ or_swap (has_turns p) (has_turns place) (some_have_turns (take n places))

-- what a turn and those before it tell is what holds of all so far
pub turned : (some said before : Bool) (places : List Place) (n : ℕ) (place : Place) → n < length places
    → before ≡ some_have_turns (take n places) → said ≡ has_turns place → some ≡ (said || before) → some ≡ some_have_turns (take (n + 1) (set places n place))
turned some said before places n place inside was is tells =
    let more : suc n ≡ n + 1 = omega arith in
    tells ∙ ap (λ b. b || before) is ∙ ap (λ b. has_turns place || b) was
    ∙ sym (subst (λ k. some_have_turns (take k (set places n place)) ≡ (has_turns place || some_have_turns (take n places))) more (one_turned places n place inside))

none_of : (a b : Bool) → (a || b) ≡ false → (a ≡ false) × (b ≡ false)
none_of true b is = absurd (true≢false is)
none_of false b is = (refl, is)

pub none_have_turns : (places : List Place) → some_have_turns places ≡ false → AllByRecursion HasNoTurns places
none_have_turns [] none = tt
none_have_turns (p ∷ places) none =
    let both = none_of (has_turns p) (some_have_turns places) none in
    (both.0, none_have_turns places both.1)
