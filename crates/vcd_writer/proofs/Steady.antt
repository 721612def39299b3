-- Slots in which no pin changes its level tell nothing.
use Rattle.std.proofs.Common.{◌≡◌, ℕ, zero, suc, ◌+◌, ◌-◌, ◌<◌, ◌≤◌, List, [], ◌∷◌, ◌++◌, length, get_or, drop, refl, ap, sym, subst, ◌∙◌, arith, append-nil}
use Rattle.xs_base.specs.Numbers.{Slot, Position}
use Rattle.xs_model.specs.Record.{NodeRec}
use Rattle.sys_plan.specs.Plan.{PlanRec}
use Rattle.serial_model.specs.Serial.{begun_at_start, serial, node_by}
use Rattle.run_plan.specs.Machine.{MachineRec, LevelsStay, WholeRunIsSerial}
use Rattle.wave_model.specs.Runs.{port_changes, node_changes, changes_before}
use Rattle.vcd_writer.specs.Tells.{TextRec, Tells, levels_of}
use Rattle.vcd_writer.proofs.Told.{no_changes}
use Rattle.vcd_writer.proofs.Levels.{nodes_count, slot_more}

-- ---- The levels of all nodes

levels_same : (nodes others : List NodeRec) → length nodes ≡ length others → ((n : Position) → (node_by nodes n).levels ≡ (node_by others n).levels)
    → levels_of nodes ≡ levels_of others
levels_same [] [] count same = refl
levels_same [] (other ∷ others) count same = absurd (omega (arith, count))
levels_same (node ∷ nodes) [] count same = absurd (omega (arith, count))
levels_same (node ∷ nodes) (other ∷ others) count same = λ i. same 0 i ∷ levels_same nodes others (omega (arith, count)) (λ n. same (suc n)) i

no_node_changes : (slot : Slot) (n : Position) (before after : List NodeRec) → 0 < slot → levels_of before ≡ levels_of after → node_changes slot n before after ≡ []
no_node_changes slot n [] after late same = refl
no_node_changes slot n (b ∷ before) [] late same = refl
no_node_changes slot n (b ∷ before) (a ∷ after) late same =
    let here : b.levels ≡ a.levels = ap (λ levels. get_or levels 0 []) same in
    let others = no_node_changes slot (n + 1) before after late (ap (drop 1) same) in
    (λ i. port_changes slot n 0 b.levels (sym here i) ++ others i) ∙ append-nil (port_changes slot n 0 b.levels b.levels) ∙ no_changes slot n late 0 b.levels

-- ---- The slots of a run

-- the levels after each slot from one on, so many of them, are those after that one
abbrev pub Stay : PlanRec → Slot → ℕ → Type 0
Stay plan from count = (k : ℕ) → k ≤ count → levels_of (serial plan (from + k)).nodes ≡ levels_of (serial plan from).nodes

pub none_told : (plan : PlanRec) (from : Slot) (count : ℕ) → 0 < from → Stay plan from count → changes_before plan (from + count) ≡ changes_before plan from
none_told plan from zero late stay = ap (changes_before plan) {x = from + 0} {y = from} (omega arith)
none_told plan from (suc count) late stay =
    let slot = from + count in
    let next : from + suc count ≡ slot + 1 = omega arith in
    let same = stay count (omega arith) ∙ sym (stay (suc count) (omega arith)) ∙ ap (λ s. levels_of (serial plan s).nodes) next in
    ap (changes_before plan) next
    ∙ slot_more plan slot
    ∙ (λ i. changes_before plan slot ++ no_node_changes slot 0 (serial plan slot).nodes (serial plan (slot + 1)).nodes (omega (arith, late)) same i)
    ∙ append-nil (changes_before plan slot)
    ∙ none_told plan from count late (λ k h. stay k (omega (arith, h)))

-- ---- A machine that went over them

module _ (serial_is : WholeRunIsSerial) (plan : PlanRec) (before after : MachineRec) (of : before.plan ≡ plan) (start : before.begun ≡ begun_at_start plan)
    (on : before.now ≤ after.now) (steady : LevelsStay before after) where
  system_at : (slot : Slot) → serial plan slot ≡ serial before.plan slot
  system_at slot = ap (λ p. serial p slot) (sym of)

  levels_at : (slot : Slot) (n : Position) → before.now ≤ slot → slot ≤ after.now
      → (node_by (serial before.plan slot).nodes n).levels ≡ (node_by (serial before.plan before.now).nodes n).levels
  levels_at slot n from to =
      let begun : before.begun ≡ begun_at_start before.plan = start ∙ ap begun_at_start (sym of) in
      ap (λ system. (node_by system.nodes n).levels) (sym (serial_is (record before { now = slot }) begun))
      ∙ steady slot n from to
      ∙ ap (λ system. (node_by system.nodes n).levels) (serial_is before begun)

  stay : Stay plan before.now (after.now - before.now)
  stay k within =
      let slot = before.now + k in
      levels_same (serial plan slot).nodes (serial plan before.now).nodes (nodes_count plan slot ∙ sym (nodes_count plan before.now))
      (λ n. ap (λ system. (node_by system.nodes n).levels) (system_at slot)
      ∙ levels_at slot n (omega arith) (omega (arith, within, on)) ∙ ap (λ system. (node_by system.nodes n).levels) (sym (system_at before.now)))

  there : before.now + (after.now - before.now) ≡ after.now
  there = omega (arith, on)

  pub seen_there : levels_of (serial plan after.now).nodes ≡ levels_of (serial plan before.now).nodes
  seen_there = ap (λ s. levels_of (serial plan s).nodes) (sym there) ∙ stay (after.now - before.now) (omega arith)

  pub told_there : (text out : TextRec) → 0 < before.now → Tells text out (changes_before plan before.now) → Tells text out (changes_before plan after.now)
  told_there text out late = subst (Tells text out) (sym (none_told plan before.now (after.now - before.now) late stay) ∙ ap (changes_before plan) there)
