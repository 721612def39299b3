-- The vertices that are left after as many rounds as there are vertices: one more round drops none.
use Rattle.std.proofs.Common.{◌≡◌, ℕ, zero, suc, ◌+◌, ◌<◌, ◌≤◌, Bool, true, false, List, [], ◌∷◌, length, map, replicate, refl, sym, ap, ◌∙◌, arith, inl, inr, ◌⊎◌}
use Rattle.std.specs.List.{list_any}
use Rattle.std.proofs.Math.ListN as lists
use Rattle.std.proofs.lemmas.Bool.{or_cases, or_left, or_right, false≢true}
use Rattle.circle_search.specs.Circles.{is_left, awaited, peeled, left_after}

-- a vertex is left after one more round where it waits for one that is left
pub is_left-peeled : (graph : List (List ℕ)) (left : List Bool) (v : ℕ) → is_left (peeled graph left) v ≡ list_any (is_left left) (awaited graph v)
is_left-peeled graph left v = lists.get_or-map (list_any (is_left left)) graph v []

-- ---- Those that are left by one account are left by another

abbrev pub Below : List Bool → List Bool → Type 0
Below [] [] = Unit {0}
Below [] (y ∷ ys) = ⊥
Below (x ∷ xs) [] = ⊥
Below (x ∷ xs) (y ∷ ys) = (x ≡ true → y ≡ true) × Below xs ys

below_at : (xs ys : List Bool) → Below xs ys → (v : ℕ) → is_left xs v ≡ true → is_left ys v ≡ true
below_at [] [] below v left = left
below_at [] (y ∷ ys) below v left = absurd below
below_at (x ∷ xs) [] below v left = absurd below
below_at (x ∷ xs) (y ∷ ys) below zero left = below.0 left
below_at (x ∷ xs) (y ∷ ys) below (suc v) left = below_at xs ys below.1 v left

any_below : (p q : ℕ → Bool) → ((w : ℕ) → p w ≡ true → q w ≡ true) → (xs : List ℕ) → list_any p xs ≡ true → list_any q xs ≡ true
any_below p q also [] any = any
any_below p q also (x ∷ xs) any = by_case (any_below p q also xs) (or_cases (p x) (list_any p xs) any)
  where
    by_case : (list_any p xs ≡ true → list_any q xs ≡ true) → (p x ≡ true) ⊎ (list_any p xs ≡ true) → list_any q (x ∷ xs) ≡ true
    by_case rest (inl here) = or_left (q x) (list_any q xs) (also x here)
    by_case rest (inr more) = or_right (q x) (list_any q xs) (rest more)

map_below : (f h : List ℕ → Bool) → ((e : List ℕ) → f e ≡ true → h e ≡ true) → (graph : List (List ℕ)) → Below (map f graph) (map h graph)
map_below f h also [] = tt
map_below f h also (e ∷ graph) = (also e, map_below f h also graph)

all_below : (f : List ℕ → Bool) (graph : List (List ℕ)) → Below (map f graph) (replicate (length graph) true)
all_below f [] = tt
all_below f (e ∷ graph) = ((λ h. refl), all_below f graph)

-- each round drops some, or none
falls : (graph : List (List ℕ)) (rounds : ℕ) → Below (left_after graph (suc rounds)) (left_after graph rounds)
unfolding left_after
falls graph zero = all_below (list_any (is_left (replicate (length graph) true))) graph
falls graph (suc rounds) =
    map_below (list_any (is_left (left_after graph (suc rounds)))) (list_any (is_left (left_after graph rounds)))
    (any_below (is_left (left_after graph (suc rounds))) (is_left (left_after graph rounds)) (below_at (left_after graph (suc rounds)) (left_after graph rounds) (falls graph rounds)))
    graph

-- ---- How many are left

abbrev trues : List Bool → ℕ
trues [] = 0
trues (true ∷ xs) = suc (trues xs)
trues (false ∷ xs) = trues xs

trues-replicate : (n : ℕ) → trues (replicate n true) ≡ n
trues-replicate zero = refl
trues-replicate (suc n) = ap suc (trues-replicate n)

-- fewer are, or the same
fewer : (xs ys : List Bool) → Below xs ys → (trues xs < trues ys) ⊎ (xs ≡ ys)
fewer [] [] below = inr refl
fewer [] (y ∷ ys) below = absurd below
fewer (x ∷ xs) [] below = absurd below
fewer (true ∷ xs) (true ∷ ys) below = elim (fewer xs ys below.1) [ inl less ↦ inl (omega (arith, less)) | inr same ↦ inr (ap (λ zs. true ∷ zs) same) ]
fewer (true ∷ xs) (false ∷ ys) below = absurd (false≢true (below.0 refl))
fewer (false ∷ xs) (true ∷ ys) below = elim (fewer xs ys below.1) [ inl less ↦ inl (omega (arith, less)) | inr same ↦ inl (omega (arith, ap trues same)) ]
fewer (false ∷ xs) (false ∷ ys) below = elim (fewer xs ys below.1) [ inl less ↦ inl less | inr same ↦ inr (ap (λ zs. false ∷ zs) same) ]

module _ (graph : List (List ℕ)) where
  -- so each round drops one, or no further round drops any
  settles : (rounds : ℕ) → (trues (left_after graph rounds) + rounds ≤ length graph) ⊎ (left_after graph (suc rounds) ≡ left_after graph rounds)
  unfolding left_after
  settles zero = inl (omega (arith, trues-replicate (length graph)))
  settles (suc rounds) = by_case (settles rounds) (fewer (left_after graph (suc rounds)) (left_after graph rounds) (falls graph rounds))
    where
      by_case : (trues (left_after graph rounds) + rounds ≤ length graph) ⊎ (left_after graph (suc rounds) ≡ left_after graph rounds)
          → (trues (left_after graph (suc rounds)) < trues (left_after graph rounds)) ⊎ (left_after graph (suc rounds) ≡ left_after graph rounds)
          → (trues (left_after graph (suc rounds)) + suc rounds ≤ length graph) ⊎ (left_after graph (suc (suc rounds)) ≡ left_after graph (suc rounds))
      by_case (inl few) (inl less) = inl (omega (arith, few, less))
      by_case (inl few) (inr same) = inr (ap (peeled graph) same)
      by_case (inr same) step = inr (ap (peeled graph) same)

  -- the vertices that are left at last
  abbrev pub at_last : List Bool
  at_last = left_after graph (length graph)

  pub stays : left_after graph (suc (length graph)) ≡ at_last
  stays = by_case (settles (length graph)) (fewer (left_after graph (suc (length graph))) at_last (falls graph (length graph)))
    where
      by_case : (trues at_last + length graph ≤ length graph) ⊎ (left_after graph (suc (length graph)) ≡ at_last)
          → (trues (left_after graph (suc (length graph))) < trues at_last) ⊎ (left_after graph (suc (length graph)) ≡ at_last)
          → left_after graph (suc (length graph)) ≡ at_last
      by_case (inr same) step = same
      by_case (inl few) (inr same) = same
      by_case (inl few) (inl less) = absurd (omega (arith, few, less))

  -- each that is left at last waits for one that is
  pub waits_at_last : (v : ℕ) → is_left at_last v ≡ true → list_any (is_left at_last) (awaited graph v) ≡ true
  unfolding left_after
  waits_at_last v left = sym (is_left-peeled graph at_last v) ∙ ap (λ l. is_left l v) stays ∙ left

-- ---- One that is left is a vertex

pub length-left_after : (graph : List (List ℕ)) (rounds : ℕ) → length (left_after graph rounds) ≡ length graph
unfolding left_after
length-left_after graph zero = lists.length-replicate (length graph) true
length-left_after graph (suc rounds) = lists.length-map graph (list_any (is_left (left_after graph rounds)))
