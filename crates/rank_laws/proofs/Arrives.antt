-- Where a walk may end, and that it goes on where it has not arrived.
use Rattle.std.proofs.Common.{◌≡◌, ◌≢◌, ℕ, ◌<◌, Bool, true, false, not, ◌&&◌, eqb, List, [], ◌∷◌, length, arith, inl, inr, ◌⊎◌}
use Rattle.std.specs.List.{AllByRecursion, list_any}
use Rattle.std.proofs.lemmas.Bool.{cases_eq, and_cases, not-false, eqb-true, or_cases, both_ways, false≢true}
use Rattle.xs_base.specs.Numbers.{NodeId, Position, LinkNumber}
use Rattle.sys_plan.specs.declared.LinkPlan.{LinkPlan}
use Rattle.sys_plan.specs.Plan.{PlanRec, IsPlan, IsLink}
use Rattle.rank_model.specs.declared.verdict.Verdict.TheVariants.{Yes}
use Rattle.rank_model.specs.Next.{link_count, arc_at, id_at, is_next, has_next}
use Rattle.rank_model.specs.Verdicts.{has_net, verdict_of}
use Rattle.rank_model.specs.Checks.{ranks_by_link}
use Rattle.rank_laws.specs.Walks.{IsHop, IsWalk, IsWalkTo, end_of, WalksArriveWhereYes}
use Rattle.rank_laws.proofs.Firsts.{some_number}
use Rattle.rank_laws.proofs.Hops.{none_at_home}
use Rattle.rank_laws.proofs.Verdicts.{verdict_is, not_cut_off}
use Rattle.rank_laws.proofs.Rises.{ends_at_node, few}
use Rattle.rank_laws.proofs.Nodes.{returns_never, fewer}

-- a network of the plan is one of 0 to 3
module _ (nodes net : ℕ) where
  of_link : (links : List LinkPlan) → AllByRecursion (IsLink nodes) links → list_any (λ (link : LinkPlan). eqb link.net net) links ≡ true → net < 4
  of_link [] all hit = absurd (false≢true hit)
  of_link (link ∷ links) all hit = by_case (of_link links all.1) (or_cases (eqb link.net net) (list_any (λ (some : LinkPlan). eqb some.net net) links) hit)
    where
      by_case : (list_any (λ (some : LinkPlan). eqb some.net net) links ≡ true → net < 4)
          → (eqb link.net net ≡ true) ⊎ (list_any (λ (some : LinkPlan). eqb some.net net) links ≡ true) → net < 4
      by_case rest (inl here) = omega (arith, eqb-true link.net net here, all.0.most_net)
      by_case rest (inr more) = rest more

  below_four : (links : List LinkPlan) → AllByRecursion (IsLink nodes) links → has_net links net ≡ true → net < 4
  below_four [] all hit = omega (arith, eqb-true net 0 hit)
  below_four (link ∷ links) all hit = of_link (link ∷ links) all hit

module _ (plan : PlanRec) (is : IsPlan plan) where
  end_is_node : (net : ℕ) (dest : NodeId) (v : Position) (ls : List LinkNumber) → v < length plan.nodes → IsWalk plan net dest v ls → end_of plan v ls < length plan.nodes
  end_is_node net dest v [] there walk = there
  end_is_node net dest v (l ∷ ls) there walk = end_is_node net dest (arc_at plan l).to ls (ends_at_node plan is l walk.0.there) walk.1

  module _ (ranks : List ℕ) (yes : verdict_of plan ranks ≡ Yes) where
    has_one : (v m : Position) (net : ℕ) → v < length plan.nodes → m < length plan.nodes → has_net plan.links net ≡ true → v ≢ m → has_next plan v net (id_at plan m) ≡ true
    has_one v m net there also in_plan apart =
        by_case (and_cases (has_net plan.links net) (not (eqb v m) && not next) (not_cut_off plan ranks yes v m net there also (below_four (length plan.nodes) net plan.links is.links in_plan)))
      where
        next : Bool
        next = has_next plan v net (id_at plan m)

        by_rest : (not (eqb v m) ≡ false) ⊎ (not next ≡ false) → next ≡ true
        by_rest (inl same) = absurd (apart (eqb-true v m (not-false (eqb v m) same)))
        by_rest (inr found) = not-false next found

        by_case : (has_net plan.links net ≡ false) ⊎ ((not (eqb v m) && not next) ≡ false) → next ≡ true
        by_case (inl other) = absurd (both_ways (has_net plan.links net) other in_plan)
        by_case (inr rest) = by_rest (and_cases (not (eqb v m)) (not next) rest)

    next_hop : (net : ℕ) (m v : Position) (ls : List LinkNumber) → IsWalkTo plan net m v ls → end_of plan v ls ≢ m → (l : LinkNumber) × IsHop plan net (id_at plan m) (end_of plan v ls) l
    next_hop net m v ls h apart =
        let end : Position = end_of plan v ls in
        let found = some_number (is_next plan end net (id_at plan m)) 0 (link_count plan)
        (has_one end m net (end_is_node net (id_at plan m) v ls h.from h.walk) h.to h.in_plan apart) in
        (found.0, record { there = omega (arith, found.1); next = found.2 })

    has_come : (net : ℕ) (m v : Position) (ls : List LinkNumber) → IsWalkTo plan net m v ls → ((l : LinkNumber) → IsHop plan net (id_at plan m) (end_of plan v ls) l → ⊥) → end_of plan v ls ≡ m
    has_come net m v ls h none = by_case (cases_eq (end_of plan v ls) m)
      where
        by_case : (end_of plan v ls ≡ m) ⊎ (end_of plan v ls ≡ m → ⊥) → end_of plan v ls ≡ m
        by_case (inl come) = come
        by_case (inr apart) = let more = next_hop net m v ls h apart in absurd (none more.0 more.1)

pub arrive_where_yes : WalksArriveWhereYes
arrive_where_yes plan ranks is judged =
    let yes : verdict_of plan (ranks_by_link plan ranks.lines) ≡ Yes = verdict_is Yes plan ranks judged in
    record {
      few_hops = few plan ranks.lines yes;
      fewer_than_nodes = λ net dest. fewer plan ranks.lines yes net dest is;
      no_return = returns_never plan ranks.lines yes;
      goes_on = next_hop plan is (ranks_by_link plan ranks.lines) yes;
      arrives = has_come plan is (ranks_by_link plan ranks.lines) yes;
      stays = λ net m l hop. none_at_home plan net m l hop.next;
    }
