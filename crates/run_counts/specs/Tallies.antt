-- What counters come to when something is counted.
use Rattle.std.specs.Prelude.{ℕ, ◌≡◌, ◌+◌, ◌-◌, ◌^◌, ◌<◌, ◌==◌, ◌&&◌, Bool, Some, List, [], length, slice_get, slice_index_or}
use Rattle.xs_base.specs.Numbers.{Slot, Position, EndNumber}
use Rattle.xs_base.specs.declared.numbers.TheConstants.{THREADS, LINK_ENDS, BUFFER_TOKENS}
use Rattle.link_ends.specs.declared.state.EndState.{EndState}
use Rattle.link_ends.specs.States.{absent_end}
use Rattle.sys_plan.specs.declared.NodePlan.{NodePlan}
use Rattle.profile_model.specs.declared.TheConstants.{ISSUES, PAUSES, WAITS}
use Rattle.profile_model.specs.Sums.{one_if}
use Rattle.profile_model.specs.Counts.{is_one_of, is_slot}
use Rattle.run_counts.specs.declared.links.LinkCounts.{LinkCounts}
use Rattle.run_counts.specs.declared.nodes.NodeCounts.{NodeCounts}
use Rattle.run_counts.specs.declared.places.PlaceCounts.{PlaceCounts}

-- what a counter has counted
abbrev pub at : List ℕ → ℕ → ℕ
at counts j = slice_index_or counts j 0

-- one more at a place, where it is to be counted
abbrev pub IsOneMore : Bool → ℕ → List ℕ → List ℕ → Type 0
IsOneMore is place before after = (j : ℕ) → at after j ≡ at before j + one_if ((place == j) && is)

-- there is room for one more
abbrev pub HasRoom : List ℕ → ℕ → Type 0
HasRoom counts place = at counts place < 2 ^ 64 - 1

-- ---- Instructions

-- there are counters for so many places
pub record HasPlaces (counts : PlaceCounts) (places : ℕ) : Type 0 where
  pub issues : length counts.issues.items ≡ places
  pub pauses : length counts.pauses.items ≡ places
  pub waits : length counts.waits.items ≡ places

-- a place has counters
pub record IsPlace (counts : PlaceCounts) (place : ℕ) : Type 0 where
  pub issues : place < length counts.issues.items
  pub pauses : place < length counts.pauses.items
  pub waits : place < length counts.waits.items

-- there is room for one more at a place
pub record HasPlaceRoom (counts : PlaceCounts) (place : ℕ) : Type 0 where
  pub issues : HasRoom counts.issues.items place
  pub pauses : HasRoom counts.pauses.items place
  pub waits : HasRoom counts.waits.items place

-- a slot is counted of a thread that is at a place, and that a chart shows by a character
pub record CountsPlace (place c : ℕ) (before after : PlaceCounts) : Type 0 where
  pub places : (count : ℕ) → HasPlaces before count → HasPlaces after count
  pub issues : IsOneMore (is_one_of ISSUES c) place before.issues.items after.issues.items
  pub pauses : IsOneMore (is_one_of PAUSES c) place before.pauses.items after.pauses.items
  pub waits : IsOneMore (is_one_of WAITS c) place before.waits.items after.waits.items

-- nothing is counted
abbrev pub AreZeros : List ℕ → Type 0
AreZeros counts = (j : ℕ) → at counts j ≡ 0

pub record AreNoPlaces (counts : PlaceCounts) : Type 0 where
  pub issues : AreZeros counts.issues.items
  pub pauses : AreZeros counts.pauses.items
  pub waits : AreZeros counts.waits.items

-- ---- Link ends

-- a slot is counted after which the link ends are so
pub record CountsEnds (slot : Slot) (ends : List EndState) (before after : LinkCounts) : Type 0 where
  pub tokens : (e : EndNumber) → e < LINK_ENDS → at after.tokens e ≡ at before.tokens e + one_if (is_slot slot (slice_index_or ends e absent_end).last)
  pub full : (e : EndNumber) → e < LINK_ENDS → at after.full e ≡ at before.full e + one_if ((slice_index_or ends e absent_end).window == BUFFER_TOKENS)

-- ---- Nodes

-- nothing is counted of a node
pub record IsNothing (node : NodePlan) (counts : NodeCounts) : Type 0 where
  pub threads : (k c : ℕ) → k < THREADS → at (slice_index_or counts.threads k []) c ≡ 0
  pub places : HasPlaces counts.places (length node.image.code + 1)
  pub none : AreNoPlaces counts.places
  pub tokens : AreZeros counts.links.tokens
  pub full : AreZeros counts.links.full

pub record AreNothing (nodes : List NodePlan) (all : List NodeCounts) : Type 0 where
  pub long : length all ≡ length nodes
  pub each : (n : Position) (node : NodePlan) (none : NodeCounts) → slice_get nodes n ≡ Some node → IsNothing node (slice_index_or all n none)
