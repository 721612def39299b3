-- The least number among those of the elements of a list that pass a test, one element after the other.
use Rattle.std.proofs.Common.{◌≡◌, ℕ, ◌+◌, ◌<◌, ◌≤◌, min, Bool, true, false, cond, Option, Some, None, List, [], ◌∷◌, ◌++◌, length, map, take, get_or, refl, sym, ap, ◌∙◌, subst, arith, inl, inr}
use mathlib.Core.Logic.{◌⊎◌}
use Rattle.std.specs.List.{filter}
use Rattle.std.proofs.lemmas.Bool.{cases_lt, lt-ltb, le-ltb}
use Rattle.std.proofs.lemmas.List.{map-append, append-nil}
use Rattle.std.proofs.lemmas.List.Elements.{filter_more, Contains-push, Contains-append_left, Contains-append_right, All-push, All-append, All-weaker}
use Rattle.xs_base.specs.Numbers.{Slot, EndNumber}
use Rattle.sys_plan.specs.Plan.{PlanRec}
use Rattle.plan_cells.specs.declared.ends.Incoming.{Incoming}
use Rattle.core_workers.specs.Worker.{IsLeast, IsReadTo, stopping_ends}
use Rattle.core_workers.specs.Steps.{IsLeastOf, IsLeastStop, least_of, lesser_stop}

module _ {X : Type 0} (test : X → Bool) (number : X → ℕ) (xs : List X) (i : ℕ) (x : X) (within : i < length xs) (is : x ≡ get_or xs i x) where
  more : (b : Bool) → test x ≡ b → map number (filter test (take (i + 1) xs)) ≡ map number (filter test (take i xs)) ++ map number (cond b (x ∷ []) [])
  more b passes =
      let front = filter test (take i xs) in
      ap (λ (ys : List X). map number ys)
      (filter_more test xs i x within
      ∙ ap (λ (y : X). front ++ cond (test y) (y ∷ []) []) (sym is)
      ∙ ap (λ (c : Bool). front ++ cond c (x ∷ []) []) passes)
      ∙ map-append number front (cond b (x ∷ []) [])

  pub one_more : test x ≡ true → map number (filter test (take (i + 1) xs)) ≡ map number (filter test (take i xs)) ++ number x ∷ []
  one_more passes = more true passes

  pub none_more : test x ≡ false → map number (filter test (take (i + 1) xs)) ≡ map number (filter test (take i xs))
  none_more fails = more false fails ∙ append-nil (map number (filter test (take i xs)))

-- ---- Of two lists

least_both : (a b : ℕ) (xs ys : List ℕ) → IsLeast a xs → IsLeast b ys → (a < b) ⊎ (b ≤ a) → IsLeast (min a b) (xs ++ ys)
least_both a b xs ys x y (inl less) =
    let is : min a b ≡ a = omega (arith, less) in
    subst (λ k. IsLeast k (xs ++ ys)) (sym is)
    (Contains-append_left xs ys a x.0, All-append (λ k. a ≤ k) xs ys x.1 (All-weaker (λ k. b ≤ k) (λ k. a ≤ k) (λ k above. omega (arith, above, less)) ys y.1))
least_both a b xs ys x y (inr less) =
    let is : min a b ≡ b = omega (arith, less) in
    subst (λ k. IsLeast k (xs ++ ys)) (sym is)
    (Contains-append_right xs ys b y.0, All-append (λ k. b ≤ k) xs ys (All-weaker (λ k. a ≤ k) (λ k. b ≤ k) (λ k above. omega (arith, above, less)) xs x.1) y.1)

pub least_join : (a b : Option ℕ) (xs ys : List ℕ) → IsLeastOf a xs → IsLeastOf b ys → IsLeastOf (least_of a b) (xs ++ ys)
least_join None b xs ys none least = subst (λ (zs : List ℕ). IsLeastOf b (zs ++ ys)) (sym none) least
least_join (Some a) None xs ys least none = subst (λ (zs : List ℕ). IsLeast a zs) (sym (ap (λ (zs : List ℕ). xs ++ zs) none ∙ append-nil xs)) least
least_join (Some a) (Some b) xs ys x y = least_both a b xs ys x y (cases_lt a b)

alone : (n : ℕ) → IsLeast n (n ∷ [])
alone n = (Contains-push [] n, All-push (λ k. n ≤ k) [] n (λ k d below. absurd (omega arith)) (omega arith))

pub least_push : (a : Option ℕ) (xs : List ℕ) (n : ℕ) → IsLeastOf a xs → IsLeastOf (least_of a (Some n)) (xs ++ n ∷ [])
least_push a xs n least = least_join a (Some n) xs (n ∷ []) least (alone n)

-- ---- The least end that stops a node

module _ (plan : PlanRec) (clock : Slot) (xs : List Incoming) (x : Incoming) where
  abbrev now : List Incoming
  now = xs ++ x ∷ []

  read_here : IsReadTo x.r.end.got x.end now
  read_here = record { reader = x; there = Contains-push xs x; at_end = refl; got = refl }

  read_before : (slot : Slot) (end : EndNumber) → IsReadTo slot end xs → IsReadTo slot end now
  read_before slot end r = record { reader = r.reader; there = Contains-append_left xs (x ∷ []) r.reader r.there; at_end = r.at_end; got = r.got }

  module _ (more : stopping_ends plan clock now ≡ stopping_ends plan clock xs ++ x.end ∷ []) where
    is_stop : (end : EndNumber) (slot : Slot) → IsLeast end (stopping_ends plan clock xs ++ x.end ∷ []) → IsReadTo slot end now → IsLeastStop plan clock now (Some (end, slot))
    is_stop end slot least read = (subst (λ (es : List EndNumber). IsLeast end es) (sym more) least, read)

    of_two : (end : EndNumber) (slot : Slot) → IsLeast end (stopping_ends plan clock xs) → IsReadTo slot end xs → (x.end < end) ⊎ (end ≤ x.end)
        → IsLeastStop plan clock now (Some (lesser_stop (Some (end, slot)) x.end x.r.end.got))
    of_two end slot least read (inl less) =
        let both = least_both end x.end (stopping_ends plan clock xs) (x.end ∷ []) least (alone x.end) (inr (omega (arith, less))) in
        let is : min end x.end ≡ x.end = omega (arith, less) in
        subst (λ b. IsLeastStop plan clock now (Some (cond b (x.end, x.r.end.got) (end, slot)))) (sym (lt-ltb x.end end less))
        (is_stop x.end x.r.end.got (subst (λ n. IsLeast n (stopping_ends plan clock xs ++ x.end ∷ [])) is both) read_here)
    of_two end slot least read (inr less) =
        let old : IsLeast end (stopping_ends plan clock xs ++ x.end ∷ []) =
        (Contains-append_left (stopping_ends plan clock xs) (x.end ∷ []) end least.0, All-push (λ k. end ≤ k) (stopping_ends plan clock xs) x.end least.1 less) in
        subst (λ b. IsLeastStop plan clock now (Some (cond b (x.end, x.r.end.got) (end, slot)))) (sym (le-ltb x.end end less))
        (is_stop end slot old (read_before slot end read))

    pub stop_more : (stop : Option (EndNumber × Slot)) → IsLeastStop plan clock xs stop → IsLeastStop plan clock now (Some (lesser_stop stop x.end x.r.end.got))
    stop_more None none = is_stop x.end x.r.end.got (subst (λ (es : List EndNumber). IsLeast x.end (es ++ x.end ∷ [])) (sym none) (alone x.end)) read_here
    stop_more (Some stop) least = of_two stop.0 stop.1 least.0 least.1 (cases_lt x.end stop.0)

  module _ (same : stopping_ends plan clock now ≡ stopping_ends plan clock xs) where
    pub stop_stays : (stop : Option (EndNumber × Slot)) → IsLeastStop plan clock xs stop → IsLeastStop plan clock now stop
    stop_stays None none = same ∙ none
    stop_stays (Some stop) least = (subst (λ (es : List EndNumber). IsLeast stop.0 es) (sym same) least.0, read_before stop.1 stop.0 least.1)
