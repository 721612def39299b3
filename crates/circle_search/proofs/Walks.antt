-- A walk among the vertices that are left at last comes to a circle, so what is told is one.
use Rattle.std.proofs.Common.{◌≡◌, ◌≢◌, ℕ, zero, suc, ◌+◌, ◌<◌, ◌≤◌, Bool, true, false, cond, eqb, Option, Some, None, List, [], ◌∷◌, ◌++◌, length, get_or, refl, sym, ◌∙◌, subst, arith, inl, inr, ◌⊎◌, length-append}
use Rattle.std.specs.Prelude.{All, unwrap_or, find, position, Contains, AllPairs}
use Rattle.std.specs.List.{list_any}
use Rattle.std.proofs.Math.ListN as lists
use Rattle.std.proofs.lemmas.Bool.{cases_lt, cases_Bool, cond-true, cond-false, or_cases, eqb-true, eq-eqb, false≢true, both_ways}
use Rattle.std.proofs.lemmas.Option.{none-some, same_Some}
use Rattle.std.proofs.lemmas.Grind.{get_or_default_zero}
use Rattle.std.proofs.lemmas.List.{get_or_append_left, get_or_push}
use Rattle.std.proofs.lemmas.List.Folds.{list_any_at, Any-from_list_any}
use Rattle.std.proofs.lemmas.List.Quantifiers.{all_pairs_push, position-Some}
use Rattle.std.proofs.lemmas.Map.Made.{IsDistinct-from_AllPairs}
use Rattle.std.proofs.lemmas.Map.Steps.{length-le_from_distinct_below}
use Rattle.circle_search.specs.Circles.{awaited, IsEdge, Leads, IsCircle, is_left, next_left, from_vertex, circle_on, from_least, circle_from, circle_of}
use Rattle.circle_search.proofs.Turns.{least_is_circle, begins_with_least}
use Rattle.circle_search.proofs.Left.{at_last, waits_at_last, length-left_after}

-- what is found passes, and is among those that were looked at
record Found (p : ℕ → Bool) (xs : List ℕ) (o : Option ℕ) : Type 0 where
  passes : p (unwrap_or o 0) ≡ true
  among : Contains xs (unwrap_or o 0)

found : (p : ℕ → Bool) (xs : List ℕ) → list_any p xs ≡ true → Found p xs (find p xs)
found p [] any = absurd (false≢true any)
found p (x ∷ xs) any = by_case (cases_Bool (p x)) (found p xs)
  where
    by_case : (p x ≡ true) ⊎ (p x ≡ false) → (list_any p xs ≡ true → Found p xs (find p xs)) → Found p (x ∷ xs) (find p (x ∷ xs))
    by_case (inl here) rest =
        subst (Found p (x ∷ xs)) (sym (cond-true (p x) (Some x) (find p xs) here)) (record { passes = here; among = (0, omega arith, refl) })
    by_case (inr not_here) rest = subst (Found p (x ∷ xs)) (sym (cond-false (p x) (Some x) (find p xs) not_here)) (later (or_cases (p x) (list_any p xs) any))
      where
        later : (p x ≡ true) ⊎ (list_any p xs ≡ true) → Found p (x ∷ xs) (find p xs)
        later (inl here) = absurd (both_ways (p x) not_here here)
        later (inr more) = let r = rest more in record { passes = r.passes; among = (suc r.among.0, omega (arith, r.among.1), r.among.2) }

-- none of a row is a vertex that does not stand in it
apart_from : (row : List ℕ) (v : ℕ) → list_any (λ x. eqb x v) row ≡ false → (k : ℕ) (d : ℕ) → k < length row → get_or row k d ≢ v
apart_from row v away k d less same = both_ways (list_any (λ x. eqb x v) row) away (list_any_at (λ x. eqb x v) row k d less (eq-eqb (get_or row k d) v same))

module _ (graph : List (List ℕ)) where
  -- ---- A row, and one vertex more

  leads_push : (row : List ℕ) (v w : ℕ) → Leads graph row v → IsEdge graph v w → Leads graph (row ++ v ∷ []) w
  leads_push [] v w leads edge = (edge, tt)
  leads_push (a ∷ []) v w leads edge = (leads.0, (edge, tt))
  leads_push (a ∷ (b ∷ rest)) v w leads edge = (leads.0, leads_push (b ∷ rest) v w leads.1 edge)

  -- ---- A row that leads to one of its own vertices, from that on

  apart_tail : (x : ℕ) (row : List ℕ) → AllPairs (λ a b. a ≢ b) (x ∷ row) → AllPairs (λ a b. a ≢ b) row
  apart_tail x row apart i j d less within = apart (suc i) (suc j) d (omega (arith, less)) (omega (arith, within))

  closes : (row : List ℕ) (v : ℕ) → Leads graph row v → AllPairs (λ a b. a ≢ b) row → list_any (λ x. eqb x v) row ≡ true → IsCircle graph (from_vertex v row)
  unfolding from_vertex
  closes [] v leads apart among = absurd (false≢true among)
  closes (x ∷ row) v leads apart among = by_case (cases_Bool (eqb x v)) (closes row v leads.1 (apart_tail x row apart))
    where
      by_case : (eqb x v ≡ true) ⊎ (eqb x v ≡ false) → (list_any (λ a. eqb a v) row ≡ true → IsCircle graph (from_vertex v row)) → IsCircle graph (from_vertex v (x ∷ row))
      by_case (inl here) rest =
          subst (IsCircle graph) (sym (cond-true (eqb x v) (x ∷ row) (from_vertex v row) here))
          (let back : Leads graph (x ∷ row) x = subst (Leads graph (x ∷ row)) (sym (eqb-true x v here)) leads in (back, apart))
      by_case (inr not_here) rest =
          subst (IsCircle graph) (sym (cond-false (eqb x v) (x ∷ row) (from_vertex v row) not_here)) (later (or_cases (eqb x v) (list_any (λ a. eqb a v) row) among))
        where
          later : (eqb x v ≡ true) ⊎ (list_any (λ a. eqb a v) row ≡ true) → IsCircle graph (from_vertex v row)
          later (inl here) = absurd (both_ways (eqb x v) not_here here)
          later (inr more) = rest more

  -- ---- A walk among those that are left at last

  abbrev IsLast : ℕ → Type 0
  IsLast v = is_left (at_last graph) v ≡ true

  -- a walk that passed a row and is at a vertex
  record Walked (row : List ℕ) (v : ℕ) : Type 0 where
    leads : Leads graph row v
    apart : AllPairs (λ a b. a ≢ b) row
    last : (k : ℕ) → k < length row → IsLast (get_or row k 0)
    here : IsLast v

  last_within : (v : ℕ) → IsLast v → v < length graph
  last_within v left = by_case (cases_lt v (length graph))
    where
      by_case : (v < length graph) ⊎ (length graph ≤ v) → v < length graph
      by_case (inl less) = less
      by_case (inr past) =
          let beyond : length (at_last graph) ≤ v = omega (arith, past, length-left_after graph (length graph)) in
          absurd (false≢true (sym (lists.get_or-eq_default (at_last graph) false beyond) ∙ left))

  last_push : (row : List ℕ) (v : ℕ) → Walked row v → (k : ℕ) → k < length (row ++ v ∷ []) → IsLast (get_or (row ++ v ∷ []) k 0)
  last_push row v walked k less = by_case (cases_lt k (length row))
    where
      by_case : (k < length row) ⊎ (length row ≤ k) → IsLast (get_or (row ++ v ∷ []) k 0)
      by_case (inl before) = subst IsLast (sym (get_or_append_left row (v ∷ []) 0 k before)) (walked.last k before)
      by_case (inr at) =
          let place : length row ≡ k = omega (arith, at, less, length-append row (v ∷ [])) in
          subst IsLast (sym (get_or_push row v 0 k place)) walked.here

  steps_on : (row : List ℕ) (v : ℕ) → Walked row v → list_any (λ x. eqb x v) row ≡ false → Walked (row ++ v ∷ []) (next_left graph (at_last graph) v)
  steps_on row v walked away =
      let next = found (is_left (at_last graph)) (awaited graph v) (waits_at_last graph v walked.here) in
      record {
        leads = leads_push row v (next_left graph (at_last graph) v) walked.leads next.among;
        apart = all_pairs_push (λ a b. a ≢ b) row v walked.apart (apart_from row v away);
        last = last_push row v walked;
        here = next.passes;
      }

  -- a row of vertices each of which stands there once is no longer than there are vertices
  few : (row : List ℕ) → AllPairs (λ a b. a ≢ b) row → ((k : ℕ) → k < length row → IsLast (get_or row k 0)) → length row ≤ length graph
  few row apart last = length-le_from_distinct_below row (length graph) (IsDistinct-from_AllPairs (λ a b. (eqb-true a b, eq-eqb a b)) row apart) within
    where
      within : (q : ℕ) → list_any (eqb q) row ≡ true → q < length graph
      within q any =
          let at = Any-from_list_any (eqb q) row any in
          omega (arith, last_within (get_or row at.0 0) (last at.0 at.2), eqb-true q at.1 at.4, at.3, get_or_default_zero row at.0 at.1 at.2)

  -- so a walk of so many steps has come back
  comes_back : (row : List ℕ) (v : ℕ) → Walked row v → length graph ≤ length row → list_any (λ x. eqb x v) row ≡ true
  comes_back row v walked long = by_case (cases_Bool (list_any (λ x. eqb x v) row))
    where
      by_case : (list_any (λ x. eqb x v) row ≡ true) ⊎ (list_any (λ x. eqb x v) row ≡ false) → list_any (λ x. eqb x v) row ≡ true
      by_case (inl among) = among
      by_case (inr away) =
          let further = steps_on row v walked away in
          absurd (omega (arith, long, length-append row (v ∷ []), few (row ++ v ∷ []) further.apart further.last))

  walk_closes : (steps : ℕ) (row : List ℕ) (v : ℕ) → Walked row v → length graph ≤ length row + steps → IsCircle graph (circle_on graph (at_last graph) steps row v)
  unfolding circle_on
  walk_closes zero row v walked long = closes row v walked.leads walked.apart (comes_back row v walked (omega (arith, long)))
  walk_closes (suc steps) row v walked long = by_case (cases_Bool (list_any (λ x. eqb x v) row)) (walk_closes steps (row ++ v ∷ []) (next_left graph (at_last graph) v))
    where
      further : List ℕ
      further = circle_on graph (at_last graph) steps (row ++ v ∷ []) (next_left graph (at_last graph) v)

      by_case : (list_any (λ x. eqb x v) row ≡ true) ⊎ (list_any (λ x. eqb x v) row ≡ false)
          → (Walked (row ++ v ∷ []) (next_left graph (at_last graph) v) → length graph ≤ length (row ++ v ∷ []) + steps → IsCircle graph further)
          → IsCircle graph (cond (list_any (λ x. eqb x v) row) (from_vertex v row) further)
      by_case (inl among) rest = subst (IsCircle graph) (sym (cond-true (list_any (λ x. eqb x v) row) (from_vertex v row) further among)) (closes row v walked.leads walked.apart among)
      by_case (inr away) rest =
          subst (IsCircle graph) (sym (cond-false (list_any (λ x. eqb x v) row) (from_vertex v row) further away))
          (rest (steps_on row v walked away) (omega (arith, long, length-append row (v ∷ []))))

  begins : (v : ℕ) → IsLast v → Walked [] v
  begins v left = record {
    leads = tt;
    apart = λ i j d less within. absurd (omega (arith, within));
    last = λ k less. absurd (omega (arith, less));
    here = left;
  }

  -- what is told comes of a circle
  pub comes_of_circle : (found : Option ℕ) (circle : List ℕ) → ((v : ℕ) → found ≡ Some v → IsLast v) → circle_from graph (at_last graph) found ≡ Some circle
      → (row : List ℕ) × IsCircle graph row × (from_least row ≡ circle)
  comes_of_circle None circle left told = absurd (none-some circle told)
  comes_of_circle (Some v) circle left told =
      let row = circle_on graph (at_last graph) (length graph) [] v in
      (row, walk_closes (length graph) [] v (begins v (left v refl)) (omega arith), same_Some (from_least row) circle told)

told_row : (graph : List (List ℕ)) (circle : List ℕ) → circle_of graph ≡ Some circle → (row : List ℕ) × IsCircle graph row × (from_least row ≡ circle)
told_row graph circle told =
    comes_of_circle graph (position (λ (l : Bool). l) (at_last graph)) circle (λ v is. (position-Some (λ (l : Bool). l) (at_last graph) v false is).1) told

pub told_is_circle : (graph : List (List ℕ)) (circle : List ℕ) → circle_of graph ≡ Some circle → IsCircle graph circle
told_is_circle graph circle told = let of = told_row graph circle told in subst (IsCircle graph) of.2 (least_is_circle graph of.0 of.1)

pub told_begins_with_least : (graph : List (List ℕ)) (a : ℕ) (rest : List ℕ) → circle_of graph ≡ Some (a ∷ rest) → All (λ b. a ≤ b) rest
told_begins_with_least graph a rest told = let of = told_row graph (a ∷ rest) told in begins_with_least graph of.0 a rest of.1 of.2
