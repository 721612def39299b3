-- Of a list that is put by slot, the events of one node are those that it had, in their order if they rise.
use Rattle.std.proofs.Common.{ℕ, zero, suc, ◌≡◌, ◌+◌, ◌<◌, ◌≤◌, Bool, true, false, cond, eqb, ltb, List, [], ◌∷◌, ◌++◌, refl, ap, sym, ◌∙◌, arith, eq-eqb}
use Rattle.std.specs.Prelude.{slice_index_or, map}
use Rattle.std.proofs.lemmas.Bool.{ltb-false, le-ltb, ne_eqb}
use Rattle.std.proofs.lemmas.List.{append-nil}
use Rattle.std.proofs.lemmas.List.Elements.{filter-append}
use Rattle.xs_model.specs.declared.event.Event.{Event}
use Rattle.xs_model.specs.FirstEvents.{first_events}
use Rattle.trace_model.specs.EventOrder.{Placed, told_at, node_after_node, put_in_slot, by_slot, merged, RiseFrom, of_slot}
use Rattle.trace_model.proofs.SlotOrder.{by_slot-rise, put-step}
use Rattle.trace_laws.specs.Order.{of_node, node_by_node}

-- an event is put before a list or left out
abbrev keep : Bool → Placed → List Placed → List Placed
keep b e es = cond b (e ∷ es) es

-- an event that no other is before stands first
put-first : (b : ℕ) (e : Placed) (es : List Placed) → e.1.slot ≤ b → RiseFrom b es → put_in_slot e es ≡ e ∷ es
put-first b e [] h k = refl
put-first b e (x ∷ xs) h k = put-step e x xs false (le-ltb x.1.slot e.1.slot (omega (arith, h, k.0)))

-- so events that rise stay as they are
pub by_slot-same : (b : ℕ) (es : List Placed) → RiseFrom b es → by_slot es ≡ es
unfolding by_slot
by_slot-same b [] h = refl
by_slot-same b (e ∷ es) h = ap (put_in_slot e) (by_slot-same e.1.slot es h.1) ∙ put-first e.1.slot e es (omega arith) h.1

module _ (k : ℕ) where
  keep-rise : (b : ℕ) (x : Placed) (xs : List Placed) (of : Bool) → b ≤ x.1.slot → RiseFrom x.1.slot xs → RiseFrom b xs → RiseFrom b (keep of x xs)
  keep-rise b x xs true h rises lower = (h, rises)
  keep-rise b x xs false h rises lower = lower

  lower-rise : (b c : ℕ) (xs : List Placed) → b ≤ c → RiseFrom c xs → RiseFrom b xs
  lower-rise b c [] le h = tt
  lower-rise b c (x ∷ xs) le h = (omega (arith, h.0), h.1)

  of_node-rise : (b : ℕ) (xs : List Placed) → RiseFrom b xs → RiseFrom b (of_node k xs)
  of_node-rise b [] h = tt
  of_node-rise b (x ∷ xs) h =
      let rest = of_node-rise x.1.slot xs h.1 in
      keep-rise b x (of_node k xs) (eqb x.0 k) h.0 rest (lower-rise b x.1.slot (of_node k xs) h.0 rest)

  -- an event is put among others where it is kept, or left out
  abbrev put-kept : Bool → Placed → List Placed → List Placed
  put-kept of e es = cond of (put_in_slot e es) es

  step-earlier : (of_e of_x : Bool) (e x : Placed) (es : List Placed) → ltb x.1.slot e.1.slot ≡ true → keep of_x x (put-kept of_e e es) ≡ put-kept of_e e (keep of_x x es)
  step-earlier false of_x e x es is = refl
  step-earlier true true e x es is = sym (put-step e x es true is)
  step-earlier true false e x es is = refl

  step-later : (of_e of_x : Bool) (e x : Placed) (es : List Placed) → ltb x.1.slot e.1.slot ≡ false → RiseFrom x.1.slot es → keep of_e e (keep of_x x es) ≡ put-kept of_e e (keep of_x x es)
  step-later false of_x e x es is h = refl
  step-later true true e x es is h = sym (put-step e x es false is)
  step-later true false e x es is h = sym (put-first x.1.slot e es (ltb-false x.1.slot e.1.slot is) h)

  of_node-step : (e x : Placed) (xs : List Placed) (earlier : Bool) → ltb x.1.slot e.1.slot ≡ earlier → RiseFrom x.1.slot xs → of_node k (put_in_slot e xs) ≡ put-kept (eqb e.0 k) e (of_node k xs) → of_node k (put_in_slot e (x ∷ xs)) ≡ put-kept (eqb e.0 k) e (of_node k (x ∷ xs))
  of_node-step e x xs true is h known =
      ap (of_node k) (put-step e x xs true is)
      ∙ (ap (keep (eqb x.0 k) x) known ∙ step-earlier (eqb e.0 k) (eqb x.0 k) e x (of_node k xs) is)
  of_node-step e x xs false is h known =
      ap (of_node k) (put-step e x xs false is)
      ∙ step-later (eqb e.0 k) (eqb x.0 k) e x (of_node k xs) is (of_node-rise x.1.slot xs h)

  put-of_node : (b : ℕ) (e : Placed) (xs : List Placed) → RiseFrom b xs → of_node k (put_in_slot e xs) ≡ put-kept (eqb e.0 k) e (of_node k xs)
  put-of_node b e [] h = refl
  put-of_node b e (x ∷ xs) h = of_node-step e x xs (ltb x.1.slot e.1.slot) refl h.1 (put-of_node x.1.slot e xs h.1)

  by_slot-kept : (of : Bool) (e : Placed) (es : List Placed) → put-kept of e (by_slot es) ≡ by_slot (keep of e es)
  unfolding by_slot
  by_slot-kept true e es = refl
  by_slot-kept false e es = refl

  by_slot-of_node : (es : List Placed) → of_node k (by_slot es) ≡ by_slot (of_node k es)
  unfolding by_slot
  by_slot-of_node [] = refl
  by_slot-of_node (e ∷ es) =
      put-of_node 0 e (by_slot es) (by_slot-rise es)
      ∙ (ap (put-kept (eqb e.0 k) e) (by_slot-of_node es) ∙ by_slot-kept (eqb e.0 k) e (of_node k es))

  -- of all events node after node, those of the node at position k
  of_node-here : (events : List Event) → of_node k (told_at k events) ≡ told_at k events
  of_node-here [] = refl
  of_node-here (e ∷ events) = rw (eq-eqb k k refl) (ap (λ (es : List Placed). (k, e) ∷ es) (of_node-here events))

  of_node-other : (j : ℕ) (events : List Event) → (j ≡ k → ⊥) → of_node k (told_at j events) ≡ []
  of_node-other j [] apart = refl
  of_node-other j (e ∷ events) apart = rw (ne_eqb j k apart) (of_node-other j events apart)

  none-later : (j : ℕ) (nodes : List (List Event)) → k < j → of_node k (node_after_node j nodes) ≡ []
  none-later j [] h = refl
  none-later j (events ∷ nodes) h =
      filter-append (λ (e : Placed). eqb e.0 k) (told_at j events) (node_after_node (j + 1) nodes)
      ∙ (ap (λ (es : List Placed). es ++ of_node k (node_after_node (j + 1) nodes)) (of_node-other j events (λ same. omega (arith, same, h)))
      ∙ none-later (j + 1) nodes (omega (arith, h)))

  of_node-told : (j d : ℕ) (nodes : List (List Event)) → j + d ≡ k → of_node k (node_after_node j nodes) ≡ told_at k (slice_index_or nodes d [])
  of_node-told j d [] at = refl
  of_node-told j zero (events ∷ nodes) at =
      let here : j ≡ k = omega (arith, at) in
      filter-append (λ (e : Placed). eqb e.0 k) (told_at j events) (node_after_node (j + 1) nodes)
      ∙ (ap (λ (es : List Placed). es ++ of_node k (node_after_node (j + 1) nodes)) (ap (λ (i : ℕ). of_node k (told_at i events)) here ∙ of_node-here events)
      ∙ (ap (λ (es : List Placed). told_at k events ++ es) (none-later (j + 1) nodes (omega (arith, at))) ∙ append-nil (told_at k events)))
  of_node-told j (suc d) (events ∷ nodes) at =
      filter-append (λ (e : Placed). eqb e.0 k) (told_at j events) (node_after_node (j + 1) nodes)
      ∙ (ap (λ (es : List Placed). es ++ of_node k (node_after_node (j + 1) nodes)) (of_node-other j events (λ same. omega (arith, same, at)))
      ∙ of_node-told (j + 1) d nodes (omega (arith, at)))

  -- of the events of nodes as one list, those of one node that rise
  pub merged-of_node : (nodes : List (List Event)) → RiseFrom 0 (told_at k (slice_index_or nodes k [])) → of_node k (merged nodes) ≡ told_at k (slice_index_or nodes k [])
  merged-of_node nodes h =
      by_slot-of_node (node_after_node 0 nodes)
      ∙ (ap by_slot (of_node-told 0 k nodes (omega arith)) ∙ by_slot-same 0 _ h)

-- the node at a position among those of which the first events are kept
pub first-at : (nodes : List (List Event)) (k : ℕ) → slice_index_or (map first_events nodes) k [] ≡ first_events (slice_index_or nodes k [])
first-at [] k = refl
first-at (events ∷ nodes) zero = refl
first-at (events ∷ nodes) (suc k) = first-at nodes k

-- of all events node after node, those of a slot
pub of_slot-told : (slot k : ℕ) (nodes : List (List Event)) → of_slot slot (node_after_node k (map first_events nodes)) ≡ node_by_node slot k nodes
of_slot-told slot k [] = refl
of_slot-told slot k (events ∷ nodes) =
    filter-append (λ (e : Placed). eqb e.1.slot slot) (told_at k (first_events events)) (node_after_node (k + 1) (map first_events nodes))
    ∙ ap (λ (es : List Placed). of_slot slot (told_at k (first_events events)) ++ es) (of_slot-told slot (k + 1) nodes)
