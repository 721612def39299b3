-- A directed link of a plan: the one that goes back, the link ends that it joins, and their gaps.
use Rattle.std.proofs.Common.{◌≡◌, ℕ, zero, suc, ◌+◌, ◌-◌, ◌%◌, true, false, eqb, Some, List, [], ◌∷◌}
use Rattle.std.proofs.Common.{slice_get, refl, ap, arith, inl, inr}
use mathlib.Core.Logic.{◌⊎◌}
use Rattle.std.proofs.lemmas.Bool.{eq-eqb, ne_eqb, eqb-true, eqb-false, cases_Bool}
use Rattle.std.proofs.lemmas.Option.{none-some, same_Some}
use Rattle.sys_plan.specs.declared.LinkPlan.{LinkPlan}
use Rattle.sys_plan.specs.Plan.{Arc, forth, back, link_arcs}
use Rattle.link_laws.specs.Travel.{opposite}

-- ---- The directed link that goes back

abbrev pub turned : Arc → Arc
turned d = record { from = d.to; from_end = d.to_end; to = d.from; to_end = d.from_end; delay = d.delay; gap = d.gap; joins = d.joins }

opposite-even : (l : ℕ) → l % 2 ≡ 0 → opposite l ≡ l + 1
opposite-even l e = rw (eq-eqb (l % 2) 0 e) refl

opposite-odd : (l : ℕ) → (l % 2 ≡ 0 → ⊥) → opposite l ≡ l - 1
opposite-odd l ne = rw (ne_eqb (l % 2) 0 ne) refl

opposite-later : (k : ℕ) → (eqb (k % 2) 0 ≡ true) ⊎ (eqb (k % 2) 0 ≡ false) → opposite (suc (suc k)) ≡ suc (suc (opposite k))
opposite-later k (inl even) = omega (arith, opposite-even k (eqb-true (k % 2) 0 even), opposite-even (suc (suc k)) (omega (arith, eqb-true (k % 2) 0 even)))
opposite-later k (inr odd) =
    let ne : k % 2 ≡ 0 → ⊥ = eqb-false (k % 2) 0 odd in
    omega (arith, opposite-odd k ne, opposite-odd (suc (suc k)) (λ even. ne (omega arith)))

pub opposite-at : (links : List LinkPlan) (l : ℕ) (d : Arc) → slice_get (link_arcs links) l ≡ Some d → slice_get (link_arcs links) (opposite l) ≡ Some (turned d)
opposite-at [] l d h = absurd (none-some d h)
opposite-at (link ∷ links) zero d h = ap (λ (x : Arc). Some (turned x)) (same_Some (forth link) d h)
opposite-at (link ∷ links) (suc zero) d h = ap (λ (x : Arc). Some (turned x)) (same_Some (back link) d h)
opposite-at (link ∷ links) (suc (suc k)) d h = rw (opposite-later k (cases_Bool (eqb (k % 2) 0))) (opposite-at links k d h)
