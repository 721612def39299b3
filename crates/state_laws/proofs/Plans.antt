-- A node of a plan is planned as its step asks: its ways lead to link ends that have a gap, and its networks are 0 to 3.
use Rattle.std.proofs.Common.{rules, ◌≡◌, ℕ, zero, suc, ◌+◌, ◌<◌, Bool, true, false, if◌then◌else◌, Option, Some, None, List, [], ◌∷◌, length, map, slice_index, refl, sym, ap, subst, arith}
use Rattle.std.specs.Prelude.{IsSome, slice_get}
use Rattle.std.specs.List.{AllByRecursion}
use Rattle.std.proofs.lemmas.Option.{none-some, same_Some}
use Rattle.xs_base.specs.declared.numbers.TheConstants.{LINK_ENDS}
use Rattle.sys_plan.specs.declared.LinkPlan.{LinkPlan}
use Rattle.sys_plan.specs.declared.NodePlan.{NodePlan}
use Rattle.sys_plan.specs.declared.WirePlan.{WirePlan}
use Rattle.sys_plan.specs.Plan.{PlanRec, Arc, IsPlan, IsLink, link_arcs, wire_arcs, arcs, outgoing, gap_by, gaps_of, link_ends, WaysLead, AllWaysLead, is_at, net_at, AllKnowNets}
use Rattle.sys_plan.proofs.Routes.{at-link-end, leads-from, LeadsFrom, all-get, all-both}
use Rattle.step_model.specs.Start.{fixed_of, WaysHaveGaps}
use Rattle.state_laws.specs.Facts.{IsPlanned}
use Rattle.state_laws.specs.Runs.{RunInRange}

-- ---- Gaps

-- an arc that leaves by a link end has a gap
abbrev HasGap : Arc → Type 0
HasGap d = d.from_end < LINK_ENDS → 0 < d.gap

links_have : (nodes : ℕ) (links : List LinkPlan) → AllByRecursion (IsLink nodes) links → AllByRecursion HasGap (link_arcs links)
links_have nodes [] all = tt
links_have nodes (link ∷ links) all =
    (λ low. omega (arith, all.0.least_gap), (λ low. omega (arith, all.0.least_gap), links_have nodes links all.1))

wires_have : (earlier wires : List WirePlan) → AllByRecursion HasGap (wire_arcs earlier wires)
wires_have earlier [] = tt
wires_have earlier (wire ∷ wires) = (λ low. absurd (omega (arith, low)), wires_have (wire ∷ earlier) wires)

at_get : {X : Type 0} (f : X → ℕ) (xs : List X) (k : ℕ) (x : X) → slice_get xs k ≡ Some x → slice_index (map f xs) k ≡ f x
at_get f [] k x h = absurd (none-some x h)
at_get f (y ∷ ys) zero x h = ap f (same_Some y x h)
at_get f (y ∷ ys) (suc k) x h = at_get f ys k x h

gap_some : (plan : PlanRec) → IsPlan plan → (n end : ℕ) → end < LINK_ENDS → (found : Option ℕ) → outgoing plan n end ≡ found → IsSome found → 0 < gap_by plan found
gap_some plan is n end low None e there = absurd (never there)
  where
    never : IsSome {T = ℕ} None → ⊥
    never = search rules
gap_some plan is n end low (Some link) e there =
    let leads : LeadsFrom plan link n end = leads-from plan n end link e in
    let all = all-both HasGap (link_arcs plan.links) (wire_arcs [] plan.wires) (links_have (length plan.nodes) plan.links is.links) (wires_have [] plan.wires) in
    let some : 0 < leads.arc.gap = all-get HasGap (arcs plan) link leads.arc all leads.here (omega (arith, leads.from_end, low)) in
    subst (λ g. 0 < g) (sym (at_get (λ (d : Arc). d.gap) (arcs plan) link leads.arc leads.here)) some

ways_have : (plan : PlanRec) → IsPlan plan → (n : ℕ) (ways : List ℕ) → WaysLead plan n ways → WaysHaveGaps ways (gaps_of plan n)
ways_have plan is n ways lead bit end bits low leads =
    subst (λ g. 0 < g) (sym (at-link-end (λ end. gap_by plan (outgoing plan n end)) 0 end low))
    (gap_some plan is n end low (outgoing plan n end) refl (lead bit end bits low leads))

-- ---- Networks

net_low : (nodes : ℕ) (links : List LinkPlan) (n end : ℕ) → AllByRecursion (IsLink nodes) links → net_at links n end < 4
net_low nodes [] n end all = omega arith
net_low nodes (link ∷ links) n end all = by (is_at n end link) (net_low nodes links n end all.1)
  where
    by : (here : Bool) → net_at links n end < 4 → (if here then link.net else net_at links n end) < 4
    by true rest = omega (arith, all.0.most_net)
    by false rest = rest

mapped_low : (g : ℕ → ℕ) (xs : List ℕ) (i : ℕ) → ((x : ℕ) → g x < 4) → slice_index (map g xs) i < 4
mapped_low g [] i low = omega arith
mapped_low g (x ∷ xs) zero low = low x
mapped_low g (x ∷ xs) (suc i) low = mapped_low g xs i low

-- ---- The nodes of a plan, the first of which stands at position n

abbrev pub AllPlanned : PlanRec → ℕ → List NodePlan → Type 0
AllPlanned plan n [] = Unit {0}
AllPlanned plan n (node ∷ nodes) = IsPlanned (fixed_of node (gaps_of plan n)) × AllPlanned plan (n + 1) nodes

all_planned : (plan : PlanRec) → IsPlan plan → (n : ℕ) (nodes : List NodePlan) → AllWaysLead plan n nodes → AllKnowNets plan.links n nodes → RunInRange nodes → AllPlanned plan n nodes
all_planned plan is n [] ways nets code = tt
all_planned plan is n (node ∷ nodes) ways nets code = (
  record {
    code = code.0;
    ways = ways_have plan is n node.ways ways.0;
    nets = λ end. subst (λ (l : List ℕ). slice_index l end < 4) (sym nets.0)
        (mapped_low (net_at plan.links n) link_ends end (λ e. net_low (length plan.nodes) plan.links n e is.links));
  },
  all_planned plan is (n + 1) nodes ways.1 nets.1 code.1,
)

pub nodes_planned : (plan : PlanRec) → IsPlan plan → RunInRange plan.nodes → AllPlanned plan 0 plan.nodes
nodes_planned plan is code = all_planned plan is 0 plan.nodes is.ways is.nets code
