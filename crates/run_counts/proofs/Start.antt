-- Where nothing is counted, and no slot has passed.
use Rattle.std.proofs.Common.{◌≡◌, ℕ, zero, suc, ◌<◌, List, [], replicate, refl, ap, ◌∙◌}
use Rattle.std.specs.Prelude.{slice_index_or}
use Rattle.std.proofs.lemmas.List.{get_or-replicate}
use Rattle.xs_base.specs.declared.numbers.TheConstants.{THREADS}
use Rattle.sys_plan.specs.declared.NodePlan.{NodePlan}
use Rattle.sys_plan.specs.Plan.{PlanRec}
use Rattle.run_counts.specs.declared.nodes.NodeCounts.{NodeCounts}
use Rattle.run_counts.specs.Tallies.{at, IsNothing, AreNothing}
use Rattle.run_counts.specs.Counted.{IsCounted, AreCounted}

pub zero-row : (n c : ℕ) → at (replicate n 0) c ≡ 0
zero-row zero c = refl
zero-row (suc n) zero = refl
zero-row (suc n) (suc c) = zero-row n c

pub zero-rows : (k c : ℕ) → k < THREADS → at (slice_index_or (replicate THREADS (replicate 256 0)) k []) c ≡ 0
zero-rows k c within = ap (λ (row : List ℕ). at row c) (get_or-replicate THREADS k (replicate 256 0) [] within) ∙ zero-row 256 c

node-start : (plan : PlanRec) (n : ℕ) (node : NodePlan) (counts : NodeCounts) → IsNothing node counts → IsCounted plan 0 n node counts
node-start plan n node counts nothing = record {
  threads = λ k c within. nothing.threads k c within;
  places = record { places = nothing.places; issues = λ p. nothing.none.issues p; pauses = λ p. nothing.none.pauses p; waits = λ p. nothing.none.waits p };
  links = record { tokens = λ e within. nothing.tokens e; full = λ e within. nothing.full e };
}

pub all-start : (plan : PlanRec) (all : List NodeCounts) → AreNothing plan.nodes all → AreCounted plan 0 all
all-start plan all nothing = record {
  long = nothing.long;
  each = λ n node none here. node-start plan n node (slice_index_or all n none) (nothing.each n node none here);
}
