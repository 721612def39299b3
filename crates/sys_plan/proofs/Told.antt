-- What a plan tells of its arcs, by their numbers and by the ends of nodes.
use Rattle.std.proofs.Common.{◌≡◌, ℕ, zero, suc, ◌+◌, ◌<◌, ◌≤◌, Option, None, List, [], ◌∷◌, ◌++◌, length, map, get_or, slice_index, option_map, sym, ap, ◌∙◌, arith}
use Rattle.std.specs.List.{AllByRecursion}
use Rattle.sys_plan.specs.declared.system_plan.TheConstants.{ENDS}
use Rattle.sys_plan.specs.Plan.{PlanRec, Arc, IsPlan, arcs, arc_count, link_arcs, wire_arcs, first_arc, leaves_by, comes_to, outgoing, incoming, delay_of}
use Rattle.sys_plan.proofs.Arcs.{at-front, at-back}
use Rattle.sys_plan.proofs.Firsts.{counted-from}
use Rattle.sys_plan.proofs.Wires.{wires_length}
use Rattle.sys_plan.proofs.Routes.{IsWithin, within-all, outgoing-of-wire, incoming-of-wire, outgoing-past, incoming-past, count_to_few, count_from_few}

abbrev delay : Arc → ℕ
delay d = d.delay

length-both : (xs ys : List Arc) → length (xs ++ ys) ≡ length xs + length ys
length-both [] ys = omega arith
length-both (x ∷ xs) ys = omega (arith, length-both xs ys)

pub arcs-count : (plan : PlanRec) → arc_count plan ≡ length (link_arcs plan.links) + length plan.wires
arcs-count plan = omega (arith, length-both (link_arcs plan.links) (wire_arcs [] plan.wires), wires_length [] plan.wires)

module _ (plan : PlanRec) where
  pub delay-of-link : (k : ℕ) → k < length (link_arcs plan.links) → slice_index (map delay (link_arcs plan.links)) k ≡ delay_of plan k
  delay-of-link k h = sym (at-front delay (link_arcs plan.links) (wire_arcs [] plan.wires) k h)

  pub delay-of-wire : (k m : ℕ) → k ≡ length (link_arcs plan.links) + m → slice_index (map delay (wire_arcs [] plan.wires)) m ≡ delay_of plan k
  delay-of-wire k m h = sym (at-back delay (link_arcs plan.links) (wire_arcs [] plan.wires) k m h)

  delays-within : (nodes : ℕ) (ds : List Arc) (k : ℕ) → AllByRecursion (IsWithin nodes) ds → k < length ds → (1 ≤ get_or (map delay ds) k 0) × (get_or (map delay ds) k 0 ≤ 1000)
  delays-within nodes [] k all h = absurd (omega arith)
  delays-within nodes (d ∷ ds) zero all h = (all.0.delay, all.0.most_delay)
  delays-within nodes (d ∷ ds) (suc k) all h = delays-within nodes ds k all.1 (omega arith)

  pub delay-within : IsPlan plan → (k : ℕ) → k < arc_count plan → (1 ≤ delay_of plan k) × (delay_of plan k ≤ 1000)
  delay-within is k h = delays-within (length plan.nodes) (arcs plan) k (within-all plan is) h

-- what is found at an end of a wire
module _ (plan : PlanRec) (is : IsPlan plan) (n end before : ℕ) (far : 8 + before ≡ end) where
  abbrev links : ℕ
  links = length (link_arcs plan.links)

  pub leaves-by-wire : (o : Option ℕ) → o ≡ first_arc (leaves_by n (8 + before)) 0 (wire_arcs [] plan.wires) → option_map (λ k. links + k) o ≡ outgoing plan n end
  leaves-by-wire o h =
      ap (option_map (λ k. links + k)) (h ∙ ap (λ e. first_arc (leaves_by n e) 0 (wire_arcs [] plan.wires)) far)
      ∙ sym (counted-from (leaves_by n end) (wire_arcs [] plan.wires) links 0)
      ∙ ap (λ i. first_arc (leaves_by n end) i (wire_arcs [] plan.wires)) (omega arith)
      ∙ sym (outgoing-of-wire plan is n end (omega arith))

  pub comes-by-wire : (o : Option ℕ) → o ≡ first_arc (comes_to n (8 + before)) 0 (wire_arcs [] plan.wires) → option_map (λ k. links + k) o ≡ incoming plan n end
  comes-by-wire o h =
      ap (option_map (λ k. links + k)) (h ∙ ap (λ e. first_arc (comes_to n e) 0 (wire_arcs [] plan.wires)) far)
      ∙ sym (counted-from (comes_to n end) (wire_arcs [] plan.wires) links 0)
      ∙ ap (λ i. first_arc (comes_to n end) i (wire_arcs [] plan.wires)) (omega arith)
      ∙ sym (incoming-of-wire plan is n end (omega arith))

-- nothing is found past all ends
module _ (plan : PlanRec) (is : IsPlan plan) (n end : ℕ) (past : ENDS ≤ end) where
  pub none-leaves-past : outgoing plan n end ≡ None
  none-leaves-past = outgoing-past plan is n end (omega (arith, count_from_few plan is n))

  pub none-comes-past : incoming plan n end ≡ None
  none-comes-past = incoming-past plan is n end (omega (arith, count_to_few plan is n))
