-- The arcs of a list of links, by number.
use Rattle.std.proofs.Common.{◌≡◌, ℕ, zero, suc, ◌*◌, ◌/◌, ◌<◌, ◌+◌, List, [], ◌∷◌, ◌++◌, length, map, get_or, refl, ◌∙◌, sym, ap, arith}
use Rattle.std.specs.List.{AllByRecursion}
use Rattle.sys_plan.specs.declared.LinkPlan.{LinkPlan}
use Rattle.sys_plan.specs.Plan.{Arc, forth, back, link_arcs}

pub arcs_length : (links : List LinkPlan) → length (link_arcs links) ≡ 2 * length links
arcs_length [] = refl
arcs_length (link ∷ links) = omega (arith, arcs_length links)

-- what both arcs of a link share stands at half the number
module _ (of_arc : Arc → ℕ) (of_link : LinkPlan → ℕ) (forth_is : (l : LinkPlan) → of_arc (forth l) ≡ of_link l) (back_is : (l : LinkPlan) → of_arc (back l) ≡ of_link l) where
  pub shared-at : (links : List LinkPlan) (k : ℕ) (d : LinkPlan) → k < 2 * length links → get_or (map of_arc (link_arcs links)) k 0 ≡ of_link (get_or links (k / 2) d)
  shared-at [] k d h = absurd (omega arith)
  shared-at (link ∷ links) zero d h = forth_is link
  shared-at (link ∷ links) (suc zero) d h = back_is link
  shared-at (link ∷ links) (suc (suc k)) d h =
      let half : suc (suc k) / 2 ≡ suc (k / 2) = omega arith in
      shared-at links k d (omega arith) ∙ ap of_link (ap (λ i. get_or (link ∷ links) i d) (sym half))

-- what is told of the arcs at the places of the first ones, and of those after them
module _ (f : Arc → ℕ) where
  pub at-front : (xs ys : List Arc) (k : ℕ) → k < length xs → get_or (map f (xs ++ ys)) k 0 ≡ get_or (map f xs) k 0
  at-front [] ys k h = absurd (omega arith)
  at-front (x ∷ xs) ys zero h = refl
  at-front (x ∷ xs) ys (suc k) h = at-front xs ys k (omega arith)

  pub at-back : (xs ys : List Arc) (k m : ℕ) → k ≡ length xs + m → get_or (map f (xs ++ ys)) k 0 ≡ get_or (map f ys) m 0
  at-back [] ys k m h = ap (λ i. get_or (map f ys) i 0) (omega arith)
  at-back (x ∷ xs) ys zero m h = absurd (omega arith)
  at-back (x ∷ xs) ys (suc k) m h = at-back xs ys k m (omega arith)

-- what holds of each element holds at each place
pub all-at : {X : Type 0} (P : X → Type 0) (xs : List X) (k : ℕ) (d : X) → AllByRecursion P xs → k < length xs → P (get_or xs k d)
all-at P [] k d all h = absurd (omega arith)
all-at P (x ∷ xs) zero d all h = all.0
all-at P (x ∷ xs) (suc k) d all h = all-at P xs k d all.1 (omega arith)
