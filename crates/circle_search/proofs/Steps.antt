-- What the loops do, in the words of the definitions.
use Rattle.std.proofs.Common.{◌≡◌, ℕ, zero, suc, ◌+◌, ◌-◌, ◌<◌, ◌≤◌, Bool, true, false, cond, eqb, Option, Some, List, [], ◌∷◌, ◌++◌, length, map, replicate, drop, get_or, refl, sym, ap, ◌∙◌, arith, Vec, Global}
use Rattle.std.specs.Prelude.{not, position}
use Rattle.std.specs.List.{list_any, prefix_len}
use Rattle.std.proofs.Math.ListN as lists
use Rattle.std.proofs.lemmas.Bool.{cond-true, cond-false}
use Rattle.std.proofs.lemmas.Simd.{map-map}
use Rattle.std.proofs.lemmas.List.{get_or-map}
use Rattle.std.proofs.lemmas.List.Quantifiers.{position-Some}
use Rattle.circle_search.specs.Circles.{is_left, awaited, peeled, left_after, next_left, from_vertex, circle_on, from_least, circle_from, circle_among, circle_of}
use Rattle.circle_search.proofs.Left.{length-left_after}

-- the vertices that each one waits for, as lists
abbrev pub lists_of : List (Vec ℕ Global) → List (List ℕ)
lists_of graph = map (λ (edges : Vec ℕ Global). edges.items) graph

pub peeled_lists : (graph : List (Vec ℕ Global)) (left : List Bool) → map (λ (edges : Vec ℕ Global). list_any (is_left left) edges.items) graph ≡ peeled (lists_of graph) left
peeled_lists graph left = sym (map-map (list_any (is_left left)) (λ (edges : Vec ℕ Global). edges.items) graph)

pub one_round : (graph : List (List ℕ)) (rounds : ℕ) → peeled graph (left_after graph rounds) ≡ left_after graph (rounds + 1)
unfolding left_after
one_round graph rounds = let next : suc rounds ≡ rounds + 1 = omega arith in ap (left_after graph) next

pub no_round : (graph : List (Vec ℕ Global)) → replicate (length graph) true ≡ left_after (lists_of graph) 0
unfolding left_after
no_round graph = ap (λ n. replicate n true) (sym (lists.length-map graph (λ (edges : Vec ℕ Global). edges.items)))

pub awaited_at : (graph : List (Vec ℕ Global)) (v : ℕ) (edges : Vec ℕ Global) → v < length graph → edges ≡ get_or graph v edges → awaited (lists_of graph) v ≡ edges.items
awaited_at graph v edges there is =
    get_or-map (λ (x : Vec ℕ Global). x.items) graph v edges [] there ∙ ap (λ (x : Vec ℕ Global). x.items) (sym is)

pub awaited_past : (graph : List (Vec ℕ Global)) (v : ℕ) → length graph ≤ v → awaited (lists_of graph) v ≡ []
awaited_past graph v past = lists.get_or-eq_default (lists_of graph) [] (omega (arith, past, lists.length-map graph (λ (x : Vec ℕ Global). x.items)))

pub skipped : (v : ℕ) (row : List ℕ) → drop (prefix_len (λ x. not (eqb x v)) row) row ≡ from_vertex v row
unfolding from_vertex
skipped v [] = refl
skipped v (x ∷ row) = by_case (eqb x v) (skipped v row)
  where
    by_case : (same : Bool) → drop (prefix_len (λ a. not (eqb a v)) row) row ≡ from_vertex v row
        → drop (cond (not same) (1 + prefix_len (λ a. not (eqb a v)) row) 0) (x ∷ row) ≡ cond same (x ∷ row) (from_vertex v row)
    by_case true rest = refl
    by_case false rest = let next : 1 + prefix_len (λ a. not (eqb a v)) row ≡ suc (prefix_len (λ a. not (eqb a v)) row) = omega arith in ap (λ n. drop n (x ∷ row)) next ∙ rest

-- a walk that has come back stops
pub comes_back : (graph : List (List ℕ)) (left : List Bool) (steps : ℕ) (row : List ℕ) (v : ℕ) → list_any (λ x. eqb x v) row ≡ true → circle_on graph left steps row v ≡ from_vertex v row
unfolding circle_on
comes_back graph left zero row v among = refl
comes_back graph left (suc steps) row v among = cond-true (list_any (λ x. eqb x v) row) (from_vertex v row) (circle_on graph left steps (row ++ v ∷ []) (next_left graph left v)) among

-- and one that has made all steps
pub all_made : (graph : List (List ℕ)) (left : List Bool) (steps : ℕ) (row : List ℕ) (v : ℕ) → steps ≡ 0 → circle_on graph left steps row v ≡ from_vertex v row
unfolding circle_on
all_made graph left steps row v none = ap (λ k. circle_on graph left k row v) none

-- another goes on
pub one_step : (graph : List (List ℕ)) (left : List Bool) (count made : ℕ) (row : List ℕ) (v : ℕ) → made < count → list_any (λ x. eqb x v) row ≡ false
    → circle_on graph left (count - made) row v ≡ circle_on graph left (count - (made + 1)) (row ++ v ∷ []) (next_left graph left v)
unfolding circle_on
one_step graph left count made row v less away =
    let more : count - made ≡ suc (count - (made + 1)) = omega (arith, less) in
    ap (λ k. circle_on graph left k row v) more
    ∙ cond-false (list_any (λ x. eqb x v) row) (from_vertex v row) (circle_on graph left (count - (made + 1)) (row ++ v ∷ []) (next_left graph left v)) away

-- ---- What is told

all_rounds : (graph : List (Vec ℕ Global)) → left_after (lists_of graph) (length graph) ≡ left_after (lists_of graph) (length (lists_of graph))
all_rounds graph = ap (left_after (lists_of graph)) (sym (lists.length-map graph (λ (edges : Vec ℕ Global). edges.items)))

pub told_among : (graph : List (Vec ℕ Global)) (left : List Bool) (found : Option ℕ) → left ≡ left_after (lists_of graph) (length graph) → found ≡ position (λ (l : Bool). l) left
    → circle_from (lists_of graph) left found ≡ circle_of (lists_of graph)
told_among graph left found are is = ap (circle_from (lists_of graph) left) is ∙ ap (circle_among (lists_of graph)) (are ∙ all_rounds graph)

pub some_told : (graph : List (Vec ℕ Global)) (left : List Bool) (v : ℕ) → Some (from_least (circle_on (lists_of graph) left (length graph) [] v)) ≡ circle_from (lists_of graph) left (Some v)
some_told graph left v = ap (λ n. Some (from_least (circle_on (lists_of graph) left n [] v))) (sym (lists.length-map graph (λ (edges : Vec ℕ Global). edges.items)))

pub start_within : (graph : List (Vec ℕ Global)) (left : List Bool) (v : ℕ) → left ≡ left_after (lists_of graph) (length graph) → Some v ≡ position (λ (l : Bool). l) left → v < length graph
start_within graph left v are is =
    let there = position-Some (λ (l : Bool). l) left v false (sym is) in
    omega (arith, there.0, ap length are, length-left_after (lists_of graph) (length graph), lists.length-map graph (λ (edges : Vec ℕ Global). edges.items))
