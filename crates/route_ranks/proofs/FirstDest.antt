-- The first of all ids for which a packet may go on from a directed link to another is near the id of the one node or of the other.
use Rattle.std.proofs.Common.{ℕ, ◌≡◌, ◌*◌, ◌/◌, ◌^◌, ◌≤◌, ◌<◌, Bool, true, false, eqb, ◌&&◌, Option, Some, None, ◌⊎◌, inl, inr, refl, sym, ap, ◌∙◌, arith}
use Rattle.std.proofs.lemmas.Bool.{and_parts, false≢true, cases_lt}
use Rattle.xs_base.specs.Numbers.{NodeId, Position, LinkNumber}
use Rattle.net_model.specs.Ways.{first_difference, ends_of_net, way_at}
use Rattle.sys_plan.specs.Plan.{PlanRec}
use Rattle.rank_model.specs.Next.{arc_at, id_at, ways_at, nets_at, net_of, is_behind}
use Rattle.rank_model.specs.Verdicts.{goes_on, first_dest}
use Rattle.route_ranks.proofs.Least.{least, IsFoundBy, least_passes, least_by, first_is}
use Rattle.route_ranks.proofs.Nearest.{at_most_it, differs_still, is_nearest, bit_within}

found_above : (o : Option NodeId) (dest other : NodeId) → dest ≤ other → IsFoundBy dest o → IsFoundBy other o
found_above None dest other above by = absurd by
found_above (Some found) dest other above by = omega (arith, above, by)

module _ (plan : PlanRec) (l k : LinkNumber) where
  -- whether a directed link leads on from a node towards an id that first differs from the node's there
  abbrev next_by : Position → LinkNumber → Option ℕ → Bool
  next_by v link found = eqb (arc_at plan link).from v && is_behind (arc_at plan link).from_end (way_at (ways_at plan v) (ends_of_net (nets_at plan v) (net_of plan l)) found)

  none_by : (v : Position) (link : LinkNumber) → next_by v link None ≡ true → ⊥
  none_by v link next = false≢true (and_parts (eqb (arc_at plan link).from v) false next).1

  abbrev v : Position
  v = (arc_at plan l).from

  abbrev w : Position
  w = (arc_at plan l).to

  abbrev goes_by : Option ℕ → Option ℕ → Bool
  goes_by at_v at_w = next_by v l at_v && next_by w k at_w

  abbrev all_near : Option NodeId
  all_near = least (goes_on plan l k) (id_at plan v) (id_at plan w) 16

  module _ (v_within : id_at plan v < 65536) (w_within : id_at plan w < 65536) where
    module _ (dest : NodeId) (within : dest < 65536) (goes : goes_on plan l k dest ≡ true) where
      module _ (i j : ℕ) (at_v : first_difference 16 (id_at plan v) dest ≡ Some i) (at_w : first_difference 16 (id_at plan w) dest ≡ Some j) where
        goes_still : (m : ℕ) → m ≤ i → m ≤ j → goes_on plan l k (dest / 2 ^ m * 2 ^ m) ≡ true
        goes_still m to_i to_j =
            ap (λ found. goes_by found (first_difference 16 (id_at plan w) (dest / 2 ^ m * 2 ^ m))) (differs_still m (id_at plan v) dest i to_i at_v ∙ sym at_v)
            ∙ ap (goes_by (first_difference 16 (id_at plan v) dest)) (differs_still m (id_at plan w) dest j to_j at_w ∙ sym at_w)
            ∙ goes

        near : (i < j) ⊎ (j ≤ i) → IsFoundBy dest all_near
        near (inl less) =
            found_above all_near (dest / 2 ^ i * 2 ^ i) dest (at_most_it dest i)
            (least_by (goes_on plan l k) (id_at plan v) (id_at plan w) 16 i (dest / 2 ^ i * 2 ^ i) (bit_within (id_at plan v) dest i v_within within at_v)
            (goes_still i (omega arith) (omega (arith, less))) (inl (is_nearest (id_at plan v) dest i v_within within at_v)))
        near (inr most) =
            found_above all_near (dest / 2 ^ j * 2 ^ j) dest (at_most_it dest j)
            (least_by (goes_on plan l k) (id_at plan v) (id_at plan w) 16 j (dest / 2 ^ j * 2 ^ j) (bit_within (id_at plan w) dest j w_within within at_w)
            (goes_still j most (omega arith)) (inr (is_nearest (id_at plan w) dest j w_within within at_w)))

      by_differences : (at_v at_w : Option ℕ) → first_difference 16 (id_at plan v) dest ≡ at_v → first_difference 16 (id_at plan w) dest ≡ at_w
          → next_by v l at_v ≡ true → next_by w k at_w ≡ true → IsFoundBy dest all_near
      by_differences None at_w is_v is_w from to = absurd (none_by v l from)
      by_differences (Some i) None is_v is_w from to = absurd (none_by w k to)
      by_differences (Some i) (Some j) is_v is_w from to = near i j is_v is_w (cases_lt i j)

      is_found : IsFoundBy dest all_near
      is_found =
          let at_v = first_difference 16 (id_at plan v) dest in
          let at_w = first_difference 16 (id_at plan w) dest in
          let parts = and_parts (next_by v l at_v) (next_by w k at_w) goes in
          by_differences at_v at_w refl refl parts.0 parts.1

    pub first_near : first_dest plan l k ≡ all_near
    first_near = first_is (goes_on plan l k) all_near (least_passes (goes_on plan l k) (id_at plan v) (id_at plan w) 16) is_found

  -- by what is read of the two nodes
  pub first_near_ids : (from to count : ℕ) → from ≡ id_at plan v → to ≡ id_at plan w → count ≡ 16 → from < 65536 → to < 65536 → first_dest plan l k ≡ least (goes_on plan l k) from to count
  first_near_ids from to count is_from is_to all from_within to_within =
      first_near (omega (arith, is_from, from_within)) (omega (arith, is_to, to_within))
      ∙ (λ i. least (goes_on plan l k) (sym is_from i) (sym is_to i) (sym all i))
