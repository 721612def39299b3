-- The ends of a node: those by which its arcs leave it, and the one to which a wire comes.
use Rattle.std.proofs.Common.{◌≡◌, ℕ, ◌+◌, ◌<◌, true, eqb, Option, Some, None, slice_get, refl, sym, ap, ◌∙◌, subst, arith}
use Rattle.std.proofs.lemmas.Bool.{and_parts, eqb-true, true≢false}
use Rattle.sys_plan.specs.Plan.{PlanRec, Arc, Joined, IsPlan, arcs, joins_to, comes_to_pin, outgoing, incoming, wire_to}
use Rattle.sys_plan.specs.declared.system_plan.TheConstants.{ENDS}
use Rattle.sys_plan.proofs.Routes.{found, outgoing-is, incoming-is, outgoing-end}
use Rattle.locality_laws.specs.Locality.{Leaves}

-- ---- The wire that comes to a pin comes to an end

-- the arc with a number is a wire that comes to a pin of a node
pub record ComesToPin (plan : PlanRec) (n port wire : ℕ) : Type 0 where
  pub arc : Arc
  pub here : slice_get (arcs plan) wire ≡ Some arc
  pub to : arc.to ≡ n
  pub joined : Joined
  pub joins : arc.joins ≡ Some joined
  pub to_port : joined.to_port ≡ port

joins_some : (port : ℕ) (joins : Option Joined) → joins_to port joins ≡ true → (joined : Joined) × (joins ≡ Some joined) × (joined.to_port ≡ port)
joins_some port None h = absurd (true≢false (sym h))
joins_some port (Some joined) h = (joined, refl, eqb-true joined.to_port port h)

pub comes_to_it : (plan : PlanRec) (n port wire : ℕ) → wire_to plan n port ≡ Some wire → ComesToPin plan n port wire
comes_to_it plan n port wire h =
    let f = found (comes_to_pin n port) 0 wire (arcs plan) h in
    let both = and_parts (eqb f.1.to n) (joins_to port f.1.joins) f.4 in
    let some = joins_some port f.1.joins both.1 in
    record {
      arc = f.1;
      here = subst (λ m. slice_get (arcs plan) m ≡ Some f.1) (omega (arith, f.2)) f.3;
      to = eqb-true f.1.to n both.0;
      joined = some.0;
      joins = some.1;
      to_port = some.2;
    }

pub wire_comes : (plan : PlanRec) → IsPlan plan → (n port wire : ℕ) → wire_to plan n port ≡ Some wire → (end : ℕ) × (incoming plan n end ≡ Some wire)
wire_comes plan is n port wire h =
    let w = comes_to_it plan n port wire h in
    (w.arc.to_end, ap (λ m. incoming plan m w.arc.to_end) (sym w.to) ∙ incoming-is plan is wire w.arc w.here)

-- ---- The arc that leaves by an end is the one that a plan gives for it

pub gives_leaving : (plan : PlanRec) → IsPlan plan → (n end link : ℕ) → Leaves plan n end link → outgoing plan n end ≡ Some link
gives_leaving plan is n end link l = (λ i. outgoing plan (sym l.from i) (sym l.from_end i)) ∙ outgoing-is plan is link l.arc l.here

-- and so its end is one by which arcs may leave
pub end_leaves : (plan : PlanRec) → IsPlan plan → (n end link : ℕ) → Leaves plan n end link → end < ENDS
end_leaves plan is n end link l = outgoing-end plan is n end link (gives_leaving plan is n end link l)
