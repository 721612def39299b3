-- No link joins a link end from 8 on.
use Rattle.std.proofs.Common.{◌≡◌, ℕ, ◌+◌, ◌<◌, ◌≤◌, List, [], ◌∷◌, false, None, refl, arith}
use Rattle.std.specs.Prelude.{◌==◌, ◌&&◌}
use Rattle.std.specs.List.{AllByRecursion}
use Rattle.std.proofs.lemmas.Bool.Decides.{nat_tests}
use Rattle.sys_plan.specs.declared.LinkPlan.{LinkPlan}
use Rattle.sys_plan.specs.Plan.{IsLink, link_arcs, first_arc, leaves_by, comes_to}

module _ (nodes node end : ℕ) (past : 8 ≤ end) where
  apart : (at own : ℕ) → own < 8 → ((at == node) && (own == end)) ≡ false
  apart at own below = grind (arith, nat_tests)

  pub leaves_none : (links : List LinkPlan) (n : ℕ) → AllByRecursion (IsLink nodes) links → first_arc (leaves_by node end) n (link_arcs links) ≡ None
  leaves_none [] n kept = refl
  leaves_none (link ∷ links) n kept =
      rw (apart link.a link.a_end kept.0.a_end, apart link.b link.b_end kept.0.b_end) (leaves_none links (n + 1 + 1) kept.1)

  pub comes_none : (links : List LinkPlan) (n : ℕ) → AllByRecursion (IsLink nodes) links → first_arc (comes_to node end) n (link_arcs links) ≡ None
  comes_none [] n kept = refl
  comes_none (link ∷ links) n kept =
      rw (apart link.b link.b_end kept.0.b_end, apart link.a link.a_end kept.0.a_end) (comes_none links (n + 1 + 1) kept.1)
