-- What is told of the ends of a node, one after the other.
use Rattle.std.proofs.Common.{◌≡◌, ℕ, ◌+◌, ◌<◌, Option, None, List, length, map, get_or, sym, ap, ◌∙◌, arith, inl, inr}
use Rattle.std.specs.Prelude.{slice_set}
use Rattle.std.proofs.lemmas.Bool.{cases_eq}
use Rattle.std.proofs.lemmas.List.{get_or-set_same, get_or-set_other, ext_get_or}
use Rattle.sys_plan.specs.Plan.{PlanRec, ends_in}
use Rattle.sys_plan.specs.declared.system_plan.TheConstants.{ENDS}
use Rattle.sys_plan.proofs.Routes.{at-end-in}
use Rattle.ahead_limits.specs.declared.horizon.Seen.{Seen}

module _ (f : ℕ → Option Seen) where
  -- it stands at each end before this one
  abbrev pub ToldBelow : ℕ → List (Option Seen) → Type 0
  ToldBelow n ends = (k : ℕ) → k < n → get_or ends k None ≡ f k

  pub told-more : (n : ℕ) (ends : List (Option Seen)) (x : Option Seen) → n < length ends → ToldBelow n ends → x ≡ f n → ToldBelow (n + 1) (slice_set ends n x)
  told-more n ends x h told is k below = elim (cases_eq k n) [
    | inl at ↦ ap (λ j. get_or (slice_set ends n x) j None) at ∙ get_or-set_same ends n x None h ∙ is ∙ ap f (sym at)
    | inr ne ↦ get_or-set_other ends n k x None ne ∙ told k (omega (arith, below, ne))
  ]

  pub told-all : (plan : PlanRec) (node : ℕ) (ends : List (Option Seen)) → length ends ≡ ENDS → ToldBelow ENDS ends → ends ≡ map f (ends_in plan node)
  told-all plan node ends long told =
      ext_get_or None ends (map f (ends_in plan node)) long
      (λ k lt. let below : k < ENDS = omega (arith, lt, long) in told k below ∙ sym (at-end-in plan node f None k below))
