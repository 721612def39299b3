-- What is noted of the arc at each end of a node, where it changes for one arc.
use Rattle.std.proofs.Common.{◌≡◌, ◌≢◌, ℕ, ◌<◌, Option, Some, map, get_or, set, sym, ap, ◌∙◌, inl, inr}
use mathlib.Core.Logic.{◌⊎◌}
use Rattle.std.proofs.lemmas.Bool.{cases_eq}
use Rattle.std.proofs.lemmas.List.{get_or-set_same, get_or-set_other, length-set, same_lists}
use Rattle.sys_plan.specs.Plan.{PlanRec, ends_in}
use Rattle.sys_plan.specs.declared.system_plan.TheConstants.{ENDS}
use Rattle.sys_plan.proofs.Routes.{at-end-in}

-- An arc is at one end of one node alone. All nodes have as many ends by which arcs may leave as ends to which they may come.
module _ (plan : PlanRec) (at : ℕ → ℕ → Option ℕ) (once : (n m e f l : ℕ) → at n e ≡ Some l → at m f ≡ Some l → (n ≡ m) × (e ≡ f))
    {X : Type 0} (node end link : ℕ) (here : at node end ≡ Some link) (before after : Option ℕ → X) (same : (x : Option ℕ) → x ≢ Some link → after x ≡ before x) where
  pub elsewhere : (m : ℕ) → m ≢ node → map (λ e. after (at m e)) (ends_in plan m) ≡ map (λ e. before (at m e)) (ends_in plan m)
  elsewhere m apart = λ i. map (λ e. same (at m e) (λ is. apart (once m node e end link is here).0) i) (ends_in plan m)

  at_end : (k : ℕ) (x : X) → k < ENDS → end < ENDS → (k ≡ end) ⊎ (k ≡ end → ⊥) → after (at node k) ≡ get_or (set (map (λ e. before (at node e)) (ends_in plan node)) end (after (Some link))) k x
  at_end k x below inside (inl is) =
      ap after (ap (λ e. at node e) is ∙ here)
      ∙ sym (ap (λ e. get_or (set (map (λ e. before (at node e)) (ends_in plan node)) end (after (Some link))) e x) is
      ∙ get_or-set_same (map (λ e. before (at node e)) (ends_in plan node)) end (after (Some link)) x inside)
  at_end k x below inside (inr other) =
      same (at node k) (λ is. other (once node node k end link is here).1)
      ∙ sym (get_or-set_other (map (λ e. before (at node e)) (ends_in plan node)) end k (after (Some link)) x other ∙ at-end-in plan node (λ e. before (at node e)) x k below)

  pub at_node : end < ENDS → map (λ e. after (at node e)) (ends_in plan node) ≡ set (map (λ e. before (at node e)) (ends_in plan node)) end (after (Some link))
  at_node inside =
      same_lists _ _ (sym (length-set (map (λ e. before (at node e)) (ends_in plan node)) end (after (Some link))))
      (λ k x below. at-end-in plan node (λ e. after (at node e)) x k below ∙ at_end k x below inside (cases_eq k end))
