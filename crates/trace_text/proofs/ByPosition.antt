-- A piece of text for each element of a list, one more each time.
use Rattle.std.proofs.Common.{◌≡◌, ℕ, ◌+◌, ◌*◌, ◌<◌, ◌≤◌, List, [], ◌∷◌, ◌++◌, length, get_or, drop, refl, ap, sym, ◌∙◌, append_assoc, arith}
use Rattle.std.proofs.lemmas.List.{at_drop_more, drop_all, get_or-map}
use Rattle.sys_plan.specs.declared.LinkPlan.{LinkPlan}
use Rattle.sys_plan.specs.declared.NodePlan.{NodePlan}
use Rattle.sys_plan.specs.Plan.{Arc, link_arcs, forth, back}
use Rattle.trace_model.specs.Trace.{by_position, number_at}
use Rattle.trace_text.proofs.TraceLines.{one_more, none_left}

module _ {A : Type 0} (piece : ℕ → A → List ℕ) where
  pub by_position-cons : (k : ℕ) (x : A) (xs : List A) → by_position piece k (x ∷ xs) ≡ piece k x ++ by_position piece (k + 1) xs
  unfolding by_position
  by_position-cons k x xs = refl

  pub by_position-nil : (k : ℕ) → by_position piece k [] ≡ []
  unfolding by_position
  by_position-nil k = refl

  by_position-next : (k : ℕ) (xs : List A) (d x : A) → k < length xs → x ≡ get_or xs k d → by_position piece k (drop k xs) ≡ piece k x ++ by_position piece (k + 1) (drop (k + 1) xs)
  by_position-next k xs d x below is =
      at_drop_more (by_position piece k) xs k d below
      ∙ (ap (λ (y : A). by_position piece k (y ∷ drop (k + 1) xs)) (sym is) ∙ by_position-cons k x (drop (k + 1) xs))

  -- from the text so far and the pieces that are left, to those with one piece more
  pub position_more : (k : ℕ) (xs : List A) (d x : A) (so_far after all : List ℕ) → k < length xs → x ≡ get_or xs k d → after ≡ so_far ++ piece k x → so_far ++ by_position piece k (drop k xs) ≡ all → after ++ by_position piece (k + 1) (drop (k + 1) xs) ≡ all
  position_more k xs d x so_far after all below is added h =
      one_more so_far after (piece k x) _ _ all added (by_position-next k xs d x below is) h

  -- no pieces are left
  pub position_done : (k : ℕ) (xs : List A) (so_far all : List ℕ) → length xs ≤ k → so_far ++ by_position piece k (drop k xs) ≡ all → so_far ≡ all
  position_done k xs so_far all end h =
      none_left so_far _ all (ap (by_position piece k) (drop_all k xs end) ∙ by_position-nil k) h

-- the number of the node at a position
pub number_at-is : (nodes : List NodePlan) (k : ℕ) (node : NodePlan) → k < length nodes → node ≡ get_or nodes k node → node.number ≡ number_at nodes k
number_at-is nodes k node below is = ap (λ (n : NodePlan). n.number) is ∙ sym (get_or-map (λ (n : NodePlan). n.number) nodes k node 0 below)

-- each link is two directed links
pub arcs-length : (links : List LinkPlan) → length (link_arcs links) ≡ 2 * length links
arcs-length [] = refl
arcs-length (link ∷ links) = omega (arith, arcs-length links)

-- two pieces for each link
module _ (piece : ℕ → Arc → List ℕ) where
  abbrev pub link_pieces : ℕ → List LinkPlan → List ℕ
  link_pieces k links = by_position piece (2 * k) (link_arcs links)

  link_pieces-next : (k : ℕ) (links : List LinkPlan) (d link : LinkPlan) → k < length links → link ≡ get_or links k d → link_pieces k (drop k links) ≡ (piece (2 * k) (forth link) ++ piece (2 * k + 1) (back link)) ++ link_pieces (k + 1) (drop (k + 1) links)
  link_pieces-next k links d link below is =
      let rest = drop (k + 1) links in
      let twice : 2 * k + 1 + 1 ≡ 2 * (k + 1) = omega arith in
      at_drop_more (link_pieces k) links k d below
      ∙ (ap (λ (l : LinkPlan). link_pieces k (l ∷ rest)) (sym is)
      ∙ (by_position-cons piece (2 * k) (forth link) (back link ∷ link_arcs rest)
      ∙ (ap (λ (t : List ℕ). piece (2 * k) (forth link) ++ t) (by_position-cons piece (2 * k + 1) (back link) (link_arcs rest)
      ∙ ap (λ (n : ℕ). piece (2 * k + 1) (back link) ++ by_position piece n (link_arcs rest)) twice)
      ∙ sym (append_assoc (piece (2 * k) (forth link)) (piece (2 * k + 1) (back link)) _))))

  pub link_more : (k : ℕ) (links : List LinkPlan) (d link : LinkPlan) (so_far after all : List ℕ) → k < length links → link ≡ get_or links k d → after ≡ so_far ++ (piece (2 * k) (forth link) ++ piece (2 * k + 1) (back link)) → so_far ++ link_pieces k (drop k links) ≡ all → after ++ link_pieces (k + 1) (drop (k + 1) links) ≡ all
  link_more k links d link so_far after all below is added h =
      one_more so_far after _ _ _ all added (link_pieces-next k links d link below is) h

  pub link_done : (k : ℕ) (links : List LinkPlan) (so_far all : List ℕ) → length links ≤ k → so_far ++ link_pieces k (drop k links) ≡ all → so_far ≡ all
  link_done k links so_far all end h =
      none_left so_far _ all (ap (link_pieces k) (drop_all k links end) ∙ by_position-nil piece (2 * k)) h
