-- The law of eight slots: in each slot in which the thread does not issue, fewer come before it, and at first at most 7 do.
use Rattle.std.proofs.Common.{◌≡◌, ◌⊎◌, inl, inr, ℕ, zero, suc, ◌+◌, ◌<◌, ◌≤◌, Option, Some, None, List, length, ap, sym, subst, ◌∙◌, refl, arith}
use Rattle.xs_base.specs.Numbers.{ThreadNumber}
use Rattle.xs_model.specs.Record.{CoreRec, last_of}
use Rattle.xs_model.specs.Picks.{picked}
use Rattle.xs_instructions.specs.declared.instr.Instr.{Instr}
use Rattle.step_model.specs.Effect.{Setting}
use Rattle.step_model.specs.Step.{setting_of, before_issue, issued_by, node_step}
use Rattle.step_laws.specs.EightSlots.{NodeRun, after_slots, core_to_issue, IsEligibleAfter, IssuesAfter, HasAllLastIssues, EligibleIssues, SlotKeepsAllLastIssues}
use Rattle.step_laws.proofs.Phases.{before_issue_keeps}
use Rattle.step_laws.proofs.Lasts.{IssueLasts, issue_lasts}
use Rattle.step_laws.proofs.Turn.{Waits, waits_at_first, issues_or_waits}

module _ (run : NodeRun) (k : ThreadNumber) (number : k < 8) where
  -- in n slots thread k did not issue
  WaitsAfter : ℕ → Type 0
  WaitsAfter n = Waits (last_of run.rec.core k) k n (core_to_issue run n).slots.last

  waits_after_none : HasAllLastIssues run.rec.core → WaitsAfter 0
  unfolding WaitsAfter after_slots
  waits_after_none eight =
      let slot = run.slot + 0 in
      let same = (before_issue_keeps run.fixed run.rec slot (run.arrivals slot) (run.pins slot)).1 in
      subst (Waits (last_of run.rec.core k) k 0) (sym same) (waits_at_first k run.rec.core.slots.last number eight)

  -- nothing else changes last issues from one slot's issue to the next one's
  waits_after_more : (n : ℕ) → IsEligibleAfter run k n → WaitsAfter n → IssuesAfter run k n ⊎ WaitsAfter (suc n)
  unfolding WaitsAfter after_slots node_step
  waits_after_more n may waits =
      let slot = run.slot + n in
      let before = before_issue run.fixed (after_slots run n) slot (run.arrivals slot) (run.pins slot) in
      let next = run.slot + suc n in
      let same = (before_issue_keeps run.fixed (after_slots run (suc n)) next (run.arrivals next) (run.pins next)).1 in
      elim (issues_or_waits run.fixed.code (setting_of run.fixed slot (run.pins slot) before.rec) before.rec.core (last_of run.rec.core k) k n number may waits) [
        | inl issues ↦ inl issues
        | inr later ↦ inr (subst (Waits (last_of run.rec.core k) k (suc n)) (sym same) later)
      ]

  issues_or_waits_after : HasAllLastIssues run.rec.core → ((n : ℕ) → n < 8 → IsEligibleAfter run k n) → (m : ℕ) → m ≤ 8 → ((n : ℕ) × (n < 8) × IssuesAfter run k n) ⊎ WaitsAfter m
  issues_or_waits_after eight may zero within = inr (waits_after_none eight)
  issues_or_waits_after eight may (suc m) within = elim (issues_or_waits_after eight may m (omega arith)) [
    | inl issues ↦ inl issues
    | inr waits ↦ elim (waits_after_more m (may m (omega arith)) waits) [
      | inl issues ↦ inl (m, omega arith, issues)
      | inr later ↦ inr later
    ]
  ]

  none_waits_longer : WaitsAfter 8 → ⊥
  unfolding WaitsAfter
  none_waits_longer waits = omega (arith, waits.few)

pub eligible_issues : EligibleIssues
eligible_issues run k eight number may =
    elim (issues_or_waits_after run k number eight may 8 (omega arith)) [
      | inl issues ↦ issues
      | inr waits ↦ absurd (none_waits_longer run k number waits)
    ]

-- ---- A last issue for each thread

by_keeps : (code : List Instr) (here : Setting) (core : CoreRec) (who : Option ThreadNumber) → length (issued_by code here core who).core.slots.last ≡ length core.slots.last
by_keeps code here core None = refl
by_keeps code here core (Some p) = let lasts : IssueLasts here.slot core (issued_by code here core (Some p)).core p = issue_lasts code here core p in lasts.as_many

pub slot_keeps_all : SlotKeepsAllLastIssues
unfolding node_step
slot_keeps_all fixed rec slot arrivals pins all =
    let before = before_issue fixed rec slot arrivals pins in
    by_keeps fixed.code (setting_of fixed slot pins before.rec) before.rec.core (picked before.rec.core slot) ∙ ap length (before_issue_keeps fixed rec slot arrivals pins).1 ∙ all
