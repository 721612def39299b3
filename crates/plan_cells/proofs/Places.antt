-- The arcs that leave a node, and those that come to it, are those at its ends.
use Rattle.std.proofs.Common.{◌≡◌, ℕ, ◌+◌, Bool, eqb, Some, slice_get, sym, ap, ◌∙◌, arith}
use Rattle.std.proofs.lemmas.Bool.{eq-eqb, eqb-true}
use Rattle.std.proofs.lemmas.Option.{same_Some}
use Rattle.xs_base.specs.Numbers.{EndNumber, Position, LinkNumber}
use Rattle.sys_plan.specs.Plan.{PlanRec, Arc, IsPlan, arcs, outgoing, incoming}
use Rattle.sys_plan.proofs.Routes.{outgoing-is, incoming-is, leads-from, leads-to}
use Rattle.plan_cells.specs.Ends.{leaving, coming}
use Rattle.plan_cells.proofs.Links.{passes_at, stands, once}

module _ (plan : PlanRec) (n : Position) where
  abbrev leaves : Arc → Bool
  leaves d = eqb d.from n

  abbrev comes : Arc → Bool
  comes d = eqb d.to n

  abbrev from_end : Arc → EndNumber
  from_end d = d.from_end

  abbrev to_end : Arc → EndNumber
  to_end d = d.to_end

  -- ---- Each that leaves by an end, or comes to it, stands among them

  pub leaving_has : (end : EndNumber) (link : LinkNumber) → outgoing plan n end ≡ Some link → (j : ℕ) × (slice_get (leaving plan n) j ≡ Some (end, link))
  leaving_has end link out =
      let l = leads-from plan n end link out in
      let s = stands leaves from_end (arcs plan) 0 link l.arc l.here (eq-eqb l.arc.from n l.from) in
      let none : 0 + link ≡ link = omega arith in
      (s.0, s.1 ∙ (λ i. Some (l.from_end i, none i)))

  pub coming_has : (end : EndNumber) (link : LinkNumber) → incoming plan n end ≡ Some link → (j : ℕ) × (slice_get (coming plan n) j ≡ Some (end, link))
  coming_has end link come =
      let l = leads-to plan n end link come in
      let s = stands comes to_end (arcs plan) 0 link l.arc l.here (eq-eqb l.arc.to n l.to) in
      let none : 0 + link ≡ link = omega arith in
      (s.0, s.1 ∙ (λ i. Some (l.to_end i, none i)))

  -- ---- Each that stands among them leaves by that end, or comes to it

  module _ (is : IsPlan plan) (j : ℕ) (end : EndNumber) (link : LinkNumber) where
    pub leaving_is : slice_get (leaving plan n) j ≡ Some (end, link) → outgoing plan n end ≡ Some link
    leaving_is h =
        let p = passes_at leaves from_end (arcs plan) 0 (end, link) j h in
        let none : p.place ≡ link = omega (arith, p.number) in
        let from : p.arc.from ≡ n = eqb-true p.arc.from n p.passes in
        (λ i. outgoing plan (sym from i) (sym p.end_is i)) ∙ outgoing-is plan is p.place p.arc p.here ∙ ap (λ (l : LinkNumber). Some l) none

    pub coming_is : slice_get (coming plan n) j ≡ Some (end, link) → incoming plan n end ≡ Some link
    coming_is h =
        let p = passes_at comes to_end (arcs plan) 0 (end, link) j h in
        let none : p.place ≡ link = omega (arith, p.number) in
        let to : p.arc.to ≡ n = eqb-true p.arc.to n p.passes in
        (λ i. incoming plan (sym to i) (sym p.end_is i)) ∙ incoming-is plan is p.place p.arc p.here ∙ ap (λ (l : LinkNumber). Some l) none

  -- ---- No two places have one end

  module _ (is : IsPlan plan) (i j : ℕ) (end : EndNumber) (a b : LinkNumber) where
    pub leaving_once : slice_get (leaving plan n) i ≡ Some (end, a) → slice_get (leaving plan n) j ≡ Some (end, b) → i ≡ j
    leaving_once at_i at_j =
        let same : a ≡ b = same_Some a b (sym (leaving_is is i end a at_i) ∙ leaving_is is j end b at_j) in
        once leaves from_end (arcs plan) 0 i j (end, a) (end, b) at_i at_j same

    pub coming_once : slice_get (coming plan n) i ≡ Some (end, a) → slice_get (coming plan n) j ≡ Some (end, b) → i ≡ j
    coming_once at_i at_j =
        let same : a ≡ b = same_Some a b (sym (coming_is is i end a at_i) ∙ coming_is is j end b at_j) in
        once comes to_end (arcs plan) 0 i j (end, a) (end, b) at_i at_j same
