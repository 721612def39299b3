-- What a hop says: from where it is, in which network, and of an id only its low 16 bits.
use Rattle.std.proofs.Common.{◌≡◌, ℕ, zero, suc, ◌+◌, ◌*◌, ◌/◌, ◌%◌, ◌^◌, ◌<◌, Bool, true, false, cond, eqb, ◌&&◌, Option, Some, None, get_or, refl, sym, ap, ◌∙◌, arith, div-add-mod'}
use Rattle.std.specs.Int.{bit_at}
use Rattle.std.proofs.lemmas.Bool.{and_parts, eqb-true, eq-eqb, false≢true}
use Rattle.std.proofs.lemmas.Nat.Bits.{bit_at_cat_low}
use Rattle.xs_base.specs.Numbers.{NodeId, Position, LinkNumber}
use Rattle.net_model.specs.Ways.{first_difference, ends_of_net, way_at, way_to}
use Rattle.sys_plan.specs.Plan.{PlanRec}
use Rattle.packet_laws.proofs.Nets.{way_of_net}
use Rattle.rank_model.specs.Next.{arc_at, id_at, ways_at, nets_at, net_of, is_behind, is_next}

-- ---- Of an id the low 16 bits count

alike : (count : ℕ) (id one other : NodeId) → ((k : ℕ) → k < count → bit_at one k ≡ bit_at other k) → first_difference count id one ≡ first_difference count id other
unfolding first_difference
alike zero id one other same = refl
alike (suc k) id one other same =
    ap (λ bit. cond (eqb (bit_at id k) bit) (first_difference k id one) (Some k)) (same k (omega arith))
    ∙ ap (λ found. cond (eqb (bit_at id k) (bit_at other k)) found (Some k)) (alike k id one other (λ j less. same j (omega (arith, less))))

abbrev pub low : NodeId → NodeId
low dest = dest % 65536

low_bits : (dest : NodeId) (k : ℕ) → k < 16 → bit_at dest k ≡ bit_at (low dest) k
low_bits dest k less =
    let whole : dest / 2 ^ 16 * 2 ^ 16 + dest % 2 ^ 16 ≡ dest = div-add-mod' dest (2 ^ 16) in
    ap (λ n. bit_at n k) (sym whole) ∙ bit_at_cat_low (dest / 2 ^ 16) 16 (dest % 2 ^ 16) k less

pub low_way : (id : NodeId) (dest : NodeId) → first_difference 16 id dest ≡ first_difference 16 id (low dest)
low_way id dest = alike 16 id dest (low dest) (low_bits dest)

-- and an id differs from itself in none of them
pub no_difference : (count : ℕ) (id : NodeId) → first_difference count id id ≡ None
unfolding first_difference
no_difference zero id = refl
no_difference (suc k) id =
    ap (λ same. cond same (first_difference k id id) (Some k)) (eq-eqb (bit_at id k) (bit_at id k) refl) ∙ no_difference k id

-- ---- A hop

module _ (plan : PlanRec) (net : ℕ) (v : Position) (l : LinkNumber) where
  abbrev mask : ℕ
  mask = ends_of_net (nets_at plan v) net

  abbrev next_by : Option ℕ → Bool
  next_by found = eqb (arc_at plan l).from v && is_behind (arc_at plan l).from_end (way_at (ways_at plan v) mask found)

  module _ (dest : NodeId) (next : is_next plan v net dest l ≡ true) where
    parts : (eqb (arc_at plan l).from v ≡ true) × (is_behind (arc_at plan l).from_end (way_to (id_at plan v) (ways_at plan v) (nets_at plan v) net dest) ≡ true)
    parts = and_parts (eqb (arc_at plan l).from v) (is_behind (arc_at plan l).from_end (way_to (id_at plan v) (ways_at plan v) (nets_at plan v) net dest)) next

    pub from_here : (arc_at plan l).from ≡ v
    from_here = eqb-true (arc_at plan l).from v parts.0

    -- the network is that of the directed link
    pub of_net : net ≡ net_of plan l
    of_net =
        sym (ap (λ (u : Position). get_or (nets_at plan u) (arc_at plan l).from_end 0) from_here
        ∙ way_of_net (ways_at plan v) (nets_at plan v) net (arc_at plan l).from_end (first_difference 16 (id_at plan v) dest) parts.1)

    pub next_low : is_next plan v net (low dest) l ≡ true
    next_low = ap next_by (sym (low_way (id_at plan v) dest)) ∙ next

  -- none leads on from a node to itself
  pub none_at_home : is_next plan v net (id_at plan v) l ≡ true → ⊥
  none_at_home next =
      let here : next_by None ≡ true = ap next_by (sym (no_difference 16 (id_at plan v))) ∙ next in
      false≢true (and_parts (eqb (arc_at plan l).from v) false here).1
