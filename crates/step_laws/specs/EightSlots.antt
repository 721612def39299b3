-- The law of eight slots: a thread that is eligible in eight consecutive slots issues in one of them.
use Rattle.std.specs.Prelude.{ℕ, zero, suc, ◌≡◌, ◌+◌, ◌<◌, true, Some, List, length}
use Rattle.xs_base.specs.Numbers.{Slot, Word, ThreadNumber}
use Rattle.xs_base.specs.declared.numbers.TheConstants.{THREADS}
use Rattle.xs_model.specs.declared.outside.Arrivals.{Arrivals}
use Rattle.xs_model.specs.declared.outside.PinView.{PinView}
use Rattle.xs_model.specs.Record.{CoreRec, NodeRec, first_core}
use Rattle.xs_model.specs.Picks.{eligible, picked}
use Rattle.step_model.specs.Fixed.{Fixed}
use Rattle.step_model.specs.Step.{before_issue, node_step}

-- a node as it is before a slot, and what comes to it from outside in that slot and in the later ones
pub record NodeRun : Type 0 where
  pub fixed : Fixed
  pub rec : NodeRec
  pub slot : Slot
  pub arrivals : Slot → Arrivals
  pub pins : Slot → PinView

-- the node after n slots
unfoldable pub after_slots : NodeRun → ℕ → NodeRec
after_slots run zero = run.rec
after_slots run (suc n) =
    let slot = run.slot + n in (node_step run.fixed (after_slots run n) slot (run.arrivals slot) (run.pins slot)).rec

-- its core in the slot after those, when all of the slot is done but the issue
abbrev pub core_to_issue : NodeRun → ℕ → CoreRec
core_to_issue run n =
    let slot = run.slot + n in (before_issue run.fixed (after_slots run n) slot (run.arrivals slot) (run.pins slot)).rec.core

-- thread k is eligible in the slot after n slots
abbrev pub IsEligibleAfter : NodeRun → ThreadNumber → ℕ → Type 0
IsEligibleAfter run k n = eligible (core_to_issue run n) k (run.slot + n) ≡ true

-- it is the one that issues in that slot
abbrev pub IssuesAfter : NodeRun → ThreadNumber → ℕ → Type 0
IssuesAfter run k n = picked (core_to_issue run n) (run.slot + n) ≡ Some k

-- a core notes for each thread the slot of its last issue, or never
abbrev pub HasAllLastIssues : CoreRec → Type 0
HasAllLastIssues core = length core.slots.last ≡ THREADS

-- whatever code the threads run, whatever comes from outside, and whatever the other threads do
abbrev pub EligibleIssues : Type 0
EligibleIssues = (run : NodeRun) (k : ThreadNumber) →
    HasAllLastIssues run.rec.core →
    k < THREADS →
    ((n : ℕ) → n < 8 → IsEligibleAfter run k n) →
    (n : ℕ) × (n < 8) × IssuesAfter run k n

-- so a core starts, and so every slot of its node leaves it
abbrev pub FirstHasAllLastIssues : Type 0
FirstHasAllLastIssues = (entry cp_at : Word) (memory : List ℕ) → HasAllLastIssues (first_core entry cp_at memory)

abbrev pub SlotKeepsAllLastIssues : Type 0
SlotKeepsAllLastIssues = (fixed : Fixed) (rec : NodeRec) (slot : Slot) (arrivals : Arrivals) (pins : PinView) →
    HasAllLastIssues rec.core → HasAllLastIssues (node_step fixed rec slot arrivals pins).rec.core
