-- Events from a slot on, in the order of a trace.
use Rattle.std.proofs.Common.{ℕ, ◌≡◌, ◌+◌, ◌-◌, ◌<◌, ◌≤◌, Bool, true, false, cond, ltb, leb, List, [], ◌∷◌, ◌++◌, length, map, take, refl, ap, sym, ◌∙◌, arith}
use Rattle.std.specs.List.{AllByRecursion, filter}
use Rattle.std.proofs.lemmas.Bool.{false≢true, ltb-false, leb-true, le-leb, lt-leb}
use Rattle.std.proofs.lemmas.List.{map-append, length-append, length-take}
use Rattle.std.proofs.lemmas.List.Elements.{filter-append}
use Rattle.xs_model.specs.declared.event.Event.{Event}
use Rattle.trace_model.specs.EventOrder.{Placed, told_at, node_after_node, put_in_slot, by_slot, merged}
use Rattle.trace_model.proofs.SlotOrder.{put-step}
use Rattle.rest_laws.proofs.Lists.{all-take, take-append, joined}

module _ (slot : ℕ) where
  abbrev pub is_from : Placed → Bool
  is_from e = leb slot e.1.slot

  abbrev pub from_it : List Placed → List Placed
  from_it events = filter is_from events

  -- ---- Events that are put by slot

  -- an event before others, or left out; and put among others, or left out
  abbrev keep : Bool → Placed → List Placed → List Placed
  keep from e es = cond from (e ∷ es) es

  abbrev put-kept : Bool → Placed → List Placed → List Placed
  put-kept from e es = cond from (put_in_slot e es) es

  step-earlier : (from_e from_x : Bool) (e x : Placed) (es : List Placed) → ltb x.1.slot e.1.slot ≡ true → keep from_x x (put-kept from_e e es) ≡ put-kept from_e e (keep from_x x es)
  step-earlier false from_x e x es is = refl
  step-earlier true true e x es is = sym (put-step e x es true is)
  step-earlier true false e x es is = refl

  step-later : (from_e from_x : Bool) (e x : Placed) (es : List Placed) → ltb x.1.slot e.1.slot ≡ false → (from_e ≡ true → from_x ≡ true) → keep from_e e (keep from_x x es) ≡ put-kept from_e e (keep from_x x es)
  step-later false from_x e x es is h = refl
  step-later true true e x es is h = sym (put-step e x es false is)
  step-later true false e x es is h = absurd (false≢true (h refl))

  from-step : (e x : Placed) (xs : List Placed) (earlier : Bool) → ltb x.1.slot e.1.slot ≡ earlier → from_it (put_in_slot e xs) ≡ put-kept (is_from e) e (from_it xs) → from_it (put_in_slot e (x ∷ xs)) ≡ put-kept (is_from e) e (from_it (x ∷ xs))
  from-step e x xs true is known =
      ap from_it (put-step e x xs true is)
      ∙ (ap (keep (is_from x) x) known ∙ step-earlier (is_from e) (is_from x) e x (from_it xs) is)
  from-step e x xs false is known =
      ap from_it (put-step e x xs false is)
      ∙ step-later (is_from e) (is_from x) e x (from_it xs) is
      (λ h. le-leb slot x.1.slot (omega (arith, leb-true slot e.1.slot h, ltb-false x.1.slot e.1.slot is)))

  from-put : (e : Placed) (xs : List Placed) → from_it (put_in_slot e xs) ≡ put-kept (is_from e) e (from_it xs)
  from-put e [] = refl
  from-put e (x ∷ xs) = from-step e x xs (ltb x.1.slot e.1.slot) refl (from-put e xs)

  put-last : (from : Bool) (e : Placed) (es : List Placed) → put-kept from e (by_slot es) ≡ by_slot (keep from e es)
  unfolding by_slot
  put-last true e es = refl
  put-last false e es = refl

  pub from-by_slot : (es : List Placed) → from_it (by_slot es) ≡ by_slot (from_it es)
  unfolding by_slot
  from-by_slot [] = refl
  from-by_slot (e ∷ es) =
      from-put e (by_slot es)
      ∙ (ap (put-kept (is_from e) e) (from-by_slot es) ∙ put-last (is_from e) e (from_it es))

  -- ---- Events of nodes

  abbrev pub AreEarlier : List Event → Type 0
  AreEarlier events = AllByRecursion (λ (e : Event). e.slot < slot) events

  abbrev pub AreFrom : List Event → Type 0
  AreFrom events = AllByRecursion (λ (e : Event). slot ≤ e.slot) events

  none-from : (k : ℕ) (events : List Event) → AreEarlier events → from_it (told_at k events) ≡ []
  none-from k [] h = refl
  none-from k (e ∷ events) h = rw (lt-leb slot e.slot h.0) (none-from k events h.1)

  all-from : (k : ℕ) (events : List Event) → AreFrom events → from_it (told_at k events) ≡ told_at k events
  all-from k [] h = refl
  all-from k (e ∷ events) h = rw (le-leb slot e.slot h.0) (ap (λ (es : List Placed). (k, e) ∷ es) (all-from k events h.1))

  -- what is kept of a node's events, of which some are earlier
  first-from : (most k : ℕ) (old new : List Event) → AreEarlier old → AreFrom new → from_it (told_at k (take most (old ++ new))) ≡ told_at k (take (most - length (take most old)) new)
  first-from most k old new earlier from =
      let early = take most old in
      let late = take (most - length (take most old)) new in
      ap (λ (es : List Event). from_it (told_at k es)) (take-append most old new)
      ∙ (ap from_it (map-append (λ (e : Event). (k, e)) early late)
      ∙ (filter-append is_from (told_at k early) (told_at k late)
      ∙ (λ i. none-from k early (all-take (λ (e : Event). e.slot < slot) most old earlier) i ++ all-from k late (all-take (λ (e : Event). slot ≤ e.slot) (most - length (take most old)) new from) i)))

  -- the room that the earlier ones leave
  abbrev pub kept_later : ℕ → List (List Event) → List (List Event) → List (List Event)
  kept_later most (old ∷ olds) (new ∷ news) = take (most - length (take most old)) new ∷ kept_later most olds news
  kept_later most _ _ = []

  nodes-from : (most k : ℕ) (olds news : List (List Event)) → AllByRecursion AreEarlier olds → AllByRecursion AreFrom news
      → from_it (node_after_node k (map (λ (es : List Event). take most es) (joined olds news))) ≡ node_after_node k (kept_later most olds news)
  nodes-from most k [] news earlier from = refl
  nodes-from most k (old ∷ olds) [] earlier from = refl
  nodes-from most k (old ∷ olds) (new ∷ news) earlier from =
      filter-append is_from (told_at k (take most (old ++ new))) (node_after_node (k + 1) (map (λ (es : List Event). take most es) (joined olds news)))
      ∙ (λ i. first-from most k old new earlier.0 from.0 i ++ nodes-from most (k + 1) olds news earlier.1 from.1 i)

  -- the events in order, from a slot on, are those of the slots from it on in order
  pub merged-from : (most : ℕ) (olds news : List (List Event)) → AllByRecursion AreEarlier olds → AllByRecursion AreFrom news
      → from_it (merged (map (λ (es : List Event). take most es) (joined olds news))) ≡ merged (kept_later most olds news)
  merged-from most olds news earlier from =
      from-by_slot (node_after_node 0 (map (λ (es : List Event). take most es) (joined olds news))) ∙ ap by_slot (nodes-from most 0 olds news earlier from)

-- ---- How many are left out

abbrev pub more_later : ℕ → List (List Event) → List (List Event) → List ℕ
more_later most (old ∷ olds) (new ∷ news) = ((length old - most) + (length new - (most - length (take most old)))) ∷ more_later most olds news
more_later most _ _ = []

pub more-from : (most : ℕ) (olds news : List (List Event)) → map (λ (es : List Event). length es - most) (joined olds news) ≡ more_later most olds news
more-from most [] news = refl
more-from most (old ∷ olds) [] = refl
more-from most (old ∷ olds) (new ∷ news) =
    let one : length (old ++ new) - most ≡ (length old - most) + (length new - (most - length (take most old))) =
    omega (arith, length-append old new, length-take most old) in
    λ i. one i ∷ more-from most olds news i
