-- The vertices of a circle are left after all rounds, so a circle is told.
use Rattle.std.proofs.Common.{◌≡◌, ℕ, zero, suc, ◌+◌, ◌<◌, ◌≤◌, Bool, true, false, Option, Some, None, List, [], ◌∷◌, length, refl, sym, ap, ◌∙◌, subst, arith, inl, inr, ◌⊎◌}
use Rattle.std.specs.Prelude.{All, IsSome, position}
use Rattle.std.specs.List.{AllByRecursion, position_from}
use Rattle.std.proofs.Math.ListN as lists
use Rattle.std.proofs.lemmas.Bool.{cases_lt, false≢true}
use Rattle.std.proofs.lemmas.List.Elements.{All-from_recursion}
use Rattle.std.proofs.lemmas.List.Folds.{list_any_at}
use Rattle.std.proofs.lemmas.Iterator.Adapters.{position_from-zero}
use Rattle.circle_search.specs.Circles.{awaited, IsEdge, Leads, IsCircle, is_left, left_after, circle_from, circle_of}
use Rattle.circle_search.proofs.Left.{is_left-peeled}

each_map : (P Q : ℕ → Type 0) → ((x : ℕ) → P x → Q x) → (xs : List ℕ) → AllByRecursion P xs → AllByRecursion Q xs
each_map P Q also [] each = tt
each_map P Q also (x ∷ xs) each = (also x each.0, each_map P Q also xs each.1)

module _ (graph : List (List ℕ)) where
  -- each of a row waits for one of the row, or for the end
  waits_along : (P : ℕ → Type 0) (row : List ℕ) (end : ℕ) → Leads graph row end → AllByRecursion P row → P end → AllByRecursion (λ x. (y : ℕ) × IsEdge graph x y × P y) row
  waits_along P [] end leads each at_end = tt
  waits_along P (a ∷ []) end leads each at_end = ((end, leads.0, at_end), tt)
  waits_along P (a ∷ (b ∷ rest)) end leads each at_end = ((b, leads.0, each.1.0), waits_along P (b ∷ rest) end leads.1 each.1 at_end)

  all_tt : (xs : List ℕ) → AllByRecursion (λ x. Unit {0}) xs
  all_tt [] = tt
  all_tt (x ∷ xs) = (tt, all_tt xs)

  -- what waits is a vertex
  waits_within : (a b : ℕ) → IsEdge graph a b → a < length graph
  waits_within a b edge = by_case (cases_lt a (length graph))
    where
      by_case : (a < length graph) ⊎ (length graph ≤ a) → a < length graph
      by_case (inl less) = less
      by_case (inr past) = absurd (omega (arith, edge.1, ap length (lists.get_or-eq_default graph [] past)))

  -- so each of a circle is
  pub all_within : (circle : List ℕ) → IsCircle graph circle → All (λ v. v < length graph) circle
  all_within [] is = absurd is
  all_within (a ∷ rest) is =
      All-from_recursion (λ v. v < length graph) (a ∷ rest)
      (each_map (λ x. (y : ℕ) × IsEdge graph x y × Unit {0}) (λ x. x < length graph) (λ x h. waits_within x h.0 h.1) (a ∷ rest)
      (waits_along (λ x. Unit {0}) (a ∷ rest) a is.0 (all_tt (a ∷ rest)) tt))

  begins : (a b : ℕ) → IsEdge graph a b → is_left (left_after graph 0) a ≡ true
  unfolding left_after
  begins a b edge = lists.get_or-replicate (length graph) a true false (waits_within a b edge)

  goes_on : (rounds : ℕ) (a b : ℕ) → IsEdge graph a b → is_left (left_after graph rounds) b ≡ true → is_left (left_after graph (suc rounds)) a ≡ true
  unfolding left_after
  goes_on rounds a b edge left =
      is_left-peeled graph (left_after graph rounds) a
      ∙ list_any_at (is_left (left_after graph rounds)) (awaited graph a) edge.0 b edge.1 (ap (is_left (left_after graph rounds)) edge.2 ∙ left)

  each_left : (a : ℕ) (rest : List ℕ) → Leads graph (a ∷ rest) a → (rounds : ℕ) → AllByRecursion (λ x. is_left (left_after graph rounds) x ≡ true) (a ∷ rest)
  each_left a rest leads zero =
      each_map (λ x. (y : ℕ) × IsEdge graph x y × Unit {0}) (λ x. is_left (left_after graph 0) x ≡ true) (λ x h. begins x h.0 h.1) (a ∷ rest)
      (waits_along (λ x. Unit {0}) (a ∷ rest) a leads (all_tt (a ∷ rest)) tt)
  each_left a rest leads (suc rounds) =
      let before : AllByRecursion (λ x. is_left (left_after graph rounds) x ≡ true) (a ∷ rest) = each_left a rest leads rounds in
      each_map (λ x. (y : ℕ) × IsEdge graph x y × (is_left (left_after graph rounds) y ≡ true)) (λ x. is_left (left_after graph (suc rounds)) x ≡ true)
      (λ x h. goes_on rounds x h.0 h.1 h.2) (a ∷ rest)
      (waits_along (λ x. is_left (left_after graph rounds) x ≡ true) (a ∷ rest) a leads before before.0)

-- one that is left is found
found_from : (left : List Bool) (n v : ℕ) → is_left left v ≡ true → IsSome (position_from (λ l. l) n left)
found_from [] n v is = absurd (false≢true is)
found_from (true ∷ left) n v is = refl
found_from (false ∷ left) n zero is = absurd (false≢true is)
found_from (false ∷ left) n (suc v) is = found_from left (n + 1) v is

some_told : (graph : List (List ℕ)) (left : List Bool) (found : Option ℕ) → IsSome found → IsSome (circle_from graph left found)
some_told graph left None is = is
some_told graph left (Some v) is = refl

pub told : (graph : List (List ℕ)) (circle : List ℕ) → IsCircle graph circle → IsSome (circle_of graph)
told graph [] is = absurd is
told graph (a ∷ rest) is =
    let left : List Bool = left_after graph (length graph) in
    some_told graph left (position (λ l. l) left)
    (subst IsSome (sym (position_from-zero (λ (l : Bool). l) left)) (found_from left 0 a (each_left graph a rest is.0 (length graph)).0))
