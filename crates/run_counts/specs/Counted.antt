-- What counters stand for: what is counted in the first slots of a run.
use Rattle.std.specs.Prelude.{ℕ, ◌≡◌, ◌+◌, ◌<◌, Some, List, [], length, slice_get, slice_index_or}
use Rattle.xs_base.specs.Numbers.{Position, ThreadNumber, EndNumber}
use Rattle.xs_base.specs.declared.numbers.TheConstants.{THREADS, LINK_ENDS}
use Rattle.sys_plan.specs.declared.NodePlan.{NodePlan}
use Rattle.sys_plan.specs.Plan.{PlanRec}
use Rattle.profile_model.specs.declared.TheConstants.{ISSUES, PAUSES, WAITS}
use Rattle.profile_model.specs.Counts.{slots_shown, times_at, tokens_sent, slots_full}
use Rattle.run_counts.specs.declared.links.LinkCounts.{LinkCounts}
use Rattle.run_counts.specs.declared.nodes.NodeCounts.{NodeCounts}
use Rattle.run_counts.specs.declared.places.PlaceCounts.{PlaceCounts}
use Rattle.run_counts.specs.Tallies.{at, HasPlaces}

-- of the threads of the node of a plan at a position
abbrev pub AreThreads : PlanRec → ℕ → Position → NodePlan → List (List ℕ) → Type 0
AreThreads plan slots n node threads =
    (k : ThreadNumber) (c : ℕ) → k < THREADS → at (slice_index_or threads k []) c ≡ slots_shown plan n node k c slots

-- of its instructions
pub record ArePlaces (plan : PlanRec) (slots : ℕ) (n : Position) (node : NodePlan) (counts : PlaceCounts) : Type 0 where
  pub places : HasPlaces counts (length node.image.code + 1)
  pub issues : (place : ℕ) → at counts.issues.items place ≡ times_at plan n node ISSUES place slots
  pub pauses : (place : ℕ) → at counts.pauses.items place ≡ times_at plan n node PAUSES place slots
  pub waits : (place : ℕ) → at counts.waits.items place ≡ times_at plan n node WAITS place slots

-- of its link ends
pub record AreLinks (plan : PlanRec) (slots : ℕ) (n : Position) (counts : LinkCounts) : Type 0 where
  pub tokens : (e : EndNumber) → e < LINK_ENDS → at counts.tokens e ≡ tokens_sent plan n e slots
  pub full : (e : EndNumber) → e < LINK_ENDS → at counts.full e ≡ slots_full plan n e slots

-- of the node
pub record IsCounted (plan : PlanRec) (slots : ℕ) (n : Position) (node : NodePlan) (counts : NodeCounts) : Type 0 where
  pub threads : AreThreads plan slots n node counts.threads
  pub places : ArePlaces plan slots n node counts.places
  pub links : AreLinks plan slots n counts.links

-- of all nodes
pub record AreCounted (plan : PlanRec) (slots : ℕ) (all : List NodeCounts) : Type 0 where
  pub long : length all ≡ length plan.nodes
  pub each : (n : Position) (node : NodePlan) (none : NodeCounts) → slice_get plan.nodes n ≡ Some node → IsCounted plan slots n node (slice_index_or all n none)
