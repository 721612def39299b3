-- Ranks rise along a walk, and so it has no more hops than there are directed links.
use Rattle.std.proofs.Common.{◌≡◌, ℕ, suc, ◌*◌, ◌<◌, ◌≤◌, true, List, [], ◌∷◌, length, get_or, refl, sym, ◌∙◌, subst, arith}
use Rattle.std.proofs.lemmas.Bool.{and_from}
use Rattle.std.proofs.lemmas.List.{length-map}
use Rattle.std.proofs.lemmas.Nat.{mod_below}
use Rattle.std.proofs.lemmas.Option.{slice_get-get_or}
use Rattle.xs_base.specs.Numbers.{NodeId, Position, LinkNumber}
use Rattle.sys_plan.specs.declared.LinkPlan.{LinkPlan}
use Rattle.sys_plan.specs.Plan.{PlanRec, IsPlan, Arc, link_arcs}
use Rattle.sys_plan.proofs.Routes.{directed}
use Rattle.rank_model.specs.declared.rank_line.RankLine.{RankLine}
use Rattle.rank_model.specs.declared.verdict.Verdict.TheVariants.{Yes}
use Rattle.rank_model.specs.Next.{link_count, no_arc, arc_at, net_of, is_next}
use Rattle.rank_model.specs.Verdicts.{goes_on, verdict_of}
use Rattle.rank_model.specs.Checks.{given_rank, rank_or_0, ranks_by_link}
use Rattle.rank_laws.specs.Walks.{IsHop, IsWalk}
use Rattle.rank_laws.proofs.Firsts.{count_of, count_within, one_fewer, one_counts}
use Rattle.rank_laws.proofs.Hops.{low, from_here, of_net, next_low}
use Rattle.rank_laws.proofs.Verdicts.{rank_above}

pub two_each : (links : List LinkPlan) → length (link_arcs links) ≡ 2 * length links
two_each [] = refl
two_each (link ∷ links) = omega (arith, two_each links)

-- a hop ends at a node
pub ends_at_node : (plan : PlanRec) → IsPlan plan → (l : LinkNumber) → l < link_count plan → (arc_at plan l).to < length plan.nodes
ends_at_node plan is l less =
    (directed plan is l (arc_at plan l) (slice_get-get_or (link_arcs plan.links) l no_arc (omega (arith, less, two_each plan.links)))).to

module _ (plan : PlanRec) (lines : List RankLine) (yes : verdict_of plan (ranks_by_link plan lines) ≡ Yes) where
  abbrev ranks : List ℕ
  ranks = ranks_by_link plan lines

  pub as_many : length ranks ≡ link_count plan
  as_many = length-map (link_arcs plan.links) (λ (arc : Arc). rank_or_0 (given_rank plan lines arc)) ∙ two_each plan.links

  pub rises : (net : ℕ) (dest : NodeId) (v : Position) (l k : LinkNumber) → IsHop plan net dest v l → IsHop plan net dest (arc_at plan l).to k → get_or ranks l 0 < get_or ranks k 0
  rises net dest v l k one other = rank_above plan ranks yes l k (low dest) one.there other.there (mod_below dest 65536 (omega arith)) on
    where
      in_net : net ≡ net_of plan l
      in_net = of_net plan net v l dest one.next

      first : is_next plan (arc_at plan l).from (net_of plan l) (low dest) l ≡ true
      first = subst (λ n. is_next plan (arc_at plan l).from n (low dest) l ≡ true) in_net
          (subst (λ (u : Position). is_next plan u net (low dest) l ≡ true) (sym (from_here plan net v l dest one.next)) (next_low plan net v l dest one.next))

      second : is_next plan (arc_at plan l).to (net_of plan l) (low dest) k ≡ true
      second = subst (λ n. is_next plan (arc_at plan l).to n (low dest) k ≡ true) in_net (next_low plan net (arc_at plan l).to k dest other.next)

      on : goes_on plan l k (low dest) ≡ true
      on = and_from (is_next plan (arc_at plan l).from (net_of plan l) (low dest) l) (is_next plan (arc_at plan l).to (net_of plan l) (low dest) k) first second

  -- as many links are ranked from the first one on
  ranked : (net : ℕ) (dest : NodeId) (v : Position) (l : LinkNumber) (ls : List LinkNumber) → IsHop plan net dest v l → IsWalk plan net dest (arc_at plan l).to ls
      → suc (length ls) ≤ count_of (get_or ranks l 0) ranks
  ranked net dest v l [] one walk = one_counts ranks l (omega (arith, as_many, one.there))
  ranked net dest v l (k ∷ ks) one walk =
      let up : get_or ranks l 0 < get_or ranks k 0 = rises net dest v l k one walk.0 in
      omega (arith, ranked net dest (arc_at plan l).to k ks walk.0 walk.1, one_fewer (get_or ranks l 0) (get_or ranks k 0) up ranks l (omega (arith, as_many, one.there)) refl)

  pub few : (net : ℕ) (dest : NodeId) (v : Position) (ls : List LinkNumber) → IsWalk plan net dest v ls → length ls ≤ link_count plan
  few net dest v [] walk = omega arith
  few net dest v (l ∷ ls) walk = omega (arith, as_many, ranked net dest v l ls walk.0 walk.1, count_within (get_or ranks l 0) ranks)
