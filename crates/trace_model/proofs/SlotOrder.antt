-- Events by slot: what that order keeps, and that there is no other.
use Rattle.std.proofs.Common.{ℕ, ◌≡◌, ◌<◌, ◌≤◌, Bool, true, false, cond, eqb, ltb, List, [], ◌∷◌, refl, ap, sym, ◌∙◌, arith, inl, inr, eq-eqb}
use Rattle.std.proofs.lemmas.Bool.{ltb-true, ltb-false, eqb-true, ne_eqb, cases_Bool, cases_lt, cond-false}
use Rattle.xs_model.specs.declared.event.Event.{Event}
use Rattle.trace_model.specs.EventOrder.{Placed, put_in_slot, by_slot, node_after_node, merged, RiseFrom, of_slot, AreInOrder}

pub put-step : (e x : Placed) (xs : List Placed) (b : Bool) → ltb x.1.slot e.1.slot ≡ b → put_in_slot e (x ∷ xs) ≡ cond b (x ∷ put_in_slot e xs) (e ∷ x ∷ xs)
put-step e x xs b h = ap (λ (t : Bool). cond t (x ∷ put_in_slot e xs) (e ∷ x ∷ xs)) h

-- an event that is put among others that rise
rise-step : (b : ℕ) (e x : Placed) (xs : List Placed) (earlier : Bool) → ltb x.1.slot e.1.slot ≡ earlier → b ≤ e.1.slot → RiseFrom b (x ∷ xs) → (x.1.slot ≤ e.1.slot → RiseFrom x.1.slot (put_in_slot e xs)) → RiseFrom b (put_in_slot e (x ∷ xs))
rise-step b e x xs true is h k go = rw (put-step e x xs true is) (k.0, go (omega (arith, ltb-true x.1.slot e.1.slot is)))
rise-step b e x xs false is h k go = rw (put-step e x xs false is) (h, (ltb-false x.1.slot e.1.slot is, k.1))

put-rise : (b : ℕ) (e : Placed) (es : List Placed) → b ≤ e.1.slot → RiseFrom b es → RiseFrom b (put_in_slot e es)
put-rise b e [] h k = (h, tt)
put-rise b e (x ∷ xs) h k = rise-step b e x xs (ltb x.1.slot e.1.slot) refl h k (λ h'. put-rise x.1.slot e xs h' k.1)

pub by_slot-rise : (es : List Placed) → RiseFrom 0 (by_slot es)
unfolding by_slot
by_slot-rise [] = tt
by_slot-rise (e ∷ es) = put-rise 0 e (by_slot es) (omega arith) (by_slot-rise es)

-- an event is put before a list or left out
abbrev keep : Bool → Placed → List Placed → List Placed
keep b e es = cond b (e ∷ es) es

-- two of which at most one is kept
keep-two : (b c : Bool) (x e : Placed) (es : List Placed) → (b ≡ true → c ≡ true → ⊥) → keep b x (keep c e es) ≡ keep c e (keep b x es)
keep-two true true x e es apart = absurd (apart refl refl)
keep-two true false x e es apart = refl
keep-two false c x e es apart = refl

module _ (slot : ℕ) where
  of_slot-step : (e x : Placed) (xs : List Placed) (earlier : Bool) → ltb x.1.slot e.1.slot ≡ earlier → of_slot slot (put_in_slot e xs) ≡ of_slot slot (e ∷ xs) → of_slot slot (put_in_slot e (x ∷ xs)) ≡ of_slot slot (e ∷ x ∷ xs)
  of_slot-step e x xs true is known =
      ap (of_slot slot) (put-step e x xs true is)
      ∙ ap (keep (eqb x.1.slot slot) x) known
      ∙ keep-two (eqb x.1.slot slot) (eqb e.1.slot slot) x e (of_slot slot xs)
      (λ h k. omega (arith, ltb-true x.1.slot e.1.slot is, eqb-true x.1.slot slot h, eqb-true e.1.slot slot k))
  of_slot-step e x xs false is known = ap (of_slot slot) (put-step e x xs false is)

  put-of_slot : (e : Placed) (es : List Placed) → of_slot slot (put_in_slot e es) ≡ of_slot slot (e ∷ es)
  put-of_slot e [] = refl
  put-of_slot e (x ∷ xs) = of_slot-step e x xs (ltb x.1.slot e.1.slot) refl (put-of_slot e xs)

  pub by_slot-of_slot : (es : List Placed) → of_slot slot (by_slot es) ≡ of_slot slot es
  unfolding by_slot
  by_slot-of_slot [] = refl
  by_slot-of_slot (e ∷ es) = put-of_slot e (by_slot es) ∙ ap (keep (eqb e.1.slot slot) e) (by_slot-of_slot es)

pub merged-in_order : (nodes : List (List Event)) → AreInOrder nodes (merged nodes)
merged-in_order nodes = record {
  rise = by_slot-rise (node_after_node 0 nodes);
  by_node = λ slot. by_slot-of_slot slot (node_after_node 0 nodes);
}

-- the first event is of its slot or left out
first-of : (slot : ℕ) (e : Placed) (es : List Placed) → e.1.slot ≡ slot → of_slot slot (e ∷ es) ≡ e ∷ of_slot slot es
first-of slot e es h = rw h (rw (eq-eqb slot slot refl) refl)

first-not-of : (slot : ℕ) (e : Placed) (es : List Placed) → eqb e.1.slot slot ≡ false → of_slot slot (e ∷ es) ≡ of_slot slot es
first-not-of slot e es h = cond-false _ _ _ h

-- no event of a later list is in an earlier slot
none_of_slot : (slot b : ℕ) (xs : List Placed) → slot < b → RiseFrom b xs → of_slot slot xs ≡ []
none_of_slot slot b [] before h = refl
none_of_slot slot b (e ∷ es) before h =
    rw (ne_eqb e.1.slot slot (λ same. omega (arith, same, h.0, before))) (none_of_slot slot e.1.slot es (omega (arith, before, h.0)) h.1)

found : (slot b : ℕ) (xs : List Placed) (w : Placed) (ws : List Placed) → RiseFrom b xs → of_slot slot xs ≡ w ∷ ws → b ≤ slot
found slot b xs w ws h e =
    elim (cases_lt slot b) [ inl before ↦ (let none = none_of_slot slot b xs before h in cc) | inr after ↦ after ]

-- lists by slot that have the same events of each slot in the same order are the same
pub same_order : (b c : ℕ) (xs ys : List Placed) → RiseFrom b xs → RiseFrom c ys → ((slot : ℕ) → of_slot slot xs ≡ of_slot slot ys) → xs ≡ ys
same_order b c [] [] h k same = refl
same_order b c [] (y ∷ ys) h k same = let clash = same y.1.slot ∙ first-of y.1.slot y ys refl in cc
same_order b c (x ∷ xs) [] h k same = let clash = sym (same x.1.slot) ∙ first-of x.1.slot x xs refl in cc
same_order b c (x ∷ xs) (y ∷ ys) h k same =
    let at_x = first-of x.1.slot x xs refl in
    let at_y = first-of y.1.slot y ys refl in
    let up = found x.1.slot y.1.slot (y ∷ ys) x _ (omega arith, k.1) (sym (same x.1.slot) ∙ at_x) in
    let down = found y.1.slot x.1.slot (x ∷ xs) y _ (omega arith, h.1) (same y.1.slot ∙ at_y) in
    let one : y.1.slot ≡ x.1.slot = omega arith in
    let heads = sym at_x ∙ same x.1.slot ∙ first-of x.1.slot y ys one in
    let head : x ≡ y = cc in
    let tails : (slot : ℕ) → of_slot slot xs ≡ of_slot slot ys =
    λ slot. elim (cases_Bool (eqb x.1.slot slot)) [
      | inl of ↦
          let here = eqb-true x.1.slot slot of in
          let both = sym (first-of slot x xs here) ∙ same slot ∙ first-of slot y ys (one ∙ here) in cc
      | inr other ↦
          sym (first-not-of slot x xs other) ∙ same slot ∙ first-not-of slot y ys (ap (λ (n : ℕ). eqb n slot) one ∙ other)
    ] in
    ap (λ (e : Placed). e ∷ xs) head ∙ ap (λ (es : List Placed). y ∷ es) (same_order x.1.slot y.1.slot xs ys h.1 k.1 tails)

-- so what is in order is the one list that the definition gives
pub in_order-merged : (nodes : List (List Event)) (events : List Placed) → AreInOrder nodes events → events ≡ merged nodes
in_order-merged nodes events h =
    same_order 0 0 events (merged nodes) h.rise (by_slot-rise (node_after_node 0 nodes))
    (λ slot. h.by_node slot ∙ sym (by_slot-of_slot slot (node_after_node 0 nodes)))
