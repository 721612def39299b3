-- A node of the serial machine between its busy slots.
use Rattle.std.proofs.Common.{◌≡◌, ℕ, zero, suc, ◌+◌, ◌-◌, ◌<◌, ◌≤◌, Bool, false, ◌||◌, if◌then◌else◌, Some, [], ◌++◌, slice_get, refl, sym, ap, ap₂, ◌∙◌, arith}
use Rattle.std.proofs.lemmas.Bool.{or_parts}
use Rattle.std.proofs.lemmas.List.{append-nil}
use Rattle.xs_base.specs.Numbers.{Slot, Position, LinkNumber, EndNumber}
use Rattle.xs_model.specs.Record.{NodeRec}
use Rattle.xs_model.specs.Outside.{Emitted, emitted_events}
use Rattle.sys_plan.specs.declared.NodePlan.{NodePlan}
use Rattle.sys_plan.specs.Plan.{PlanRec, gaps_of}
use Rattle.step_model.specs.Fixed.{Fixed}
use Rattle.step_model.specs.Start.{fixed_of}
use Rattle.step_model.specs.Step.{Stepped, node_step}
use Rattle.step_laws.specs.EightSlots.{after_slots}
use Rattle.step_laws.specs.Shape.{FirstHasShape, SlotKeepsShape}
use Rattle.serial_model.specs.Serial.{serial, carried_by}
use Rattle.locality_laws.specs.Horizon.{HistoriesAreWhole}
use Rattle.locality_laws.specs.Locality.{node_in, events_in, history_in, shown_in_serial, Leaves, OutgoingLeaves, IsStep, StepNeedsComing}
use Rattle.quiet_model.specs.Slots.{NoneBefore, FirstAlike}
use Rattle.quiet_model.specs.Stirs.{stirs}
use Rattle.quiet_laws.specs.Undisturbed.{no_arrivals, undisturbed_run, undisturbed_until}
use Rattle.quiet_laws.specs.Quiet.{QuietSlotOnlyCounts}
use Rattle.busy_slots.specs.Busy.{something_arrives, is_busy, busy_count}
use Rattle.busy_slots.specs.Serial.{IdleWhereNotBusy, QuietSlotsAreNotCounted, FirstBusySlot}
use Rattle.busy_slots.proofs.Arriving.{no_coming, nothing_comes, carries_nothing}
use Rattle.busy_slots.proofs.Passing.{stays_to, carried_alike}
use Rattle.busy_slots.proofs.Shape.{nodes_are_whole}

module _ (steps : StepNeedsComing) (plan : PlanRec) (n : Position) (node : NodePlan) (here : slice_get plan.nodes n ≡ Some node) where
  abbrev fixed : Fixed
  fixed = fixed_of node (gaps_of plan n)

  -- its step in a slot in which nothing arrives
  abbrev idle_step : Slot → NodeRec → Stepped
  idle_step slot rec = node_step fixed rec slot no_arrivals (shown_in_serial plan n slot)

  idle_step_is : (slot : Slot) → something_arrives plan n slot ≡ false → IsStep plan n slot (idle_step slot (node_in (serial plan slot) n))
  idle_step_is slot none = steps plan n node slot (no_coming plan n slot) here (sym (nothing_comes plan n slot none))

  -- ---- Where nothing arrives

  module _ (from : Slot) where
    idle_after : (count : ℕ) → NoneBefore (something_arrives plan n) from (from + count)
        → node_in (serial plan (from + count)) n ≡ after_slots (undisturbed_run fixed (node_in (serial plan from) n) from (shown_in_serial plan n)) count
    unfolding after_slots
    idle_after zero none = let same : from + 0 ≡ from = omega arith in ap (λ t. node_in (serial plan t) n) same
    idle_after (suc count) none =
        let slot = from + count in
        let on : from + suc count ≡ suc slot = omega arith in
        ap (λ t. node_in (serial plan t) n) on
        ∙ (idle_step_is slot (none slot (omega arith) (omega arith))).rec
        ∙ ap (λ rec. (idle_step slot rec).rec) (idle_after count (λ t first later. none t first (omega (arith, later))))

    pub was_idle : (to : Slot) → from ≤ to → NoneBefore (something_arrives plan n) from to → node_in (serial plan to) n ≡ undisturbed_until fixed (node_in (serial plan from) n) from (shown_in_serial plan n) to
    was_idle to later none =
        let there : to ≡ from + (to - from) = omega arith in
        ap (λ t. node_in (serial plan t) n) there ∙ idle_after (to - from) (λ t first before. none t first (omega (arith, before, there)))

  -- ---- Where it does not stir either

  module _ (quiet : QuietSlotOnlyCounts) (first : FirstHasShape) (keeps : SlotKeepsShape) where
    -- nothing happens in a slot, and nothing is sent in it
    record Passes (slot : Slot) : Type 0 where
      events : events_in (serial plan (suc slot)) n ≡ events_in (serial plan slot) n
      sent : (end : EndNumber) (link : LinkNumber) → Leaves plan n end link → history_in (serial plan (suc slot)).histories link ≡ history_in (serial plan slot).histories link

    passes : (slot : Slot) → is_busy plan n slot ≡ false → Passes slot
    passes slot idle =
        let rec = node_in (serial plan slot) n in
        let parts = or_parts (something_arrives plan n slot) (stirs rec slot) idle in
        let step = idle_step_is slot parts.0 in
        let counts = quiet fixed rec slot (shown_in_serial plan n slot) (nodes_are_whole first keeps plan slot n) refl parts.1 in
        let nothing : (idle_step slot rec).emitted ≡ emitted_events [] = ap (λ (s : Stepped). s.emitted) counts in
        record {
          events =
              step.events
              ∙ ap (λ (e : Emitted). events_in (serial plan slot) n ++ e.events) nothing
              ∙ append-nil (events_in (serial plan slot) n);
          sent = λ end link leaves.
              step.sent end link leaves
              ∙ ap (λ entries. history_in (serial plan slot).histories link ++ entries)
              ((λ i. carried_by slot rec (counts i).rec (counts i).emitted end leaves.arc.joins) ∙ carries_nothing slot slot 1 (shown_in_serial plan n slot) rec end leaves.arc.joins)
              ∙ append-nil (history_in (serial plan slot).histories link);
        }

pub idle_where_not_busy : StepNeedsComing → OutgoingLeaves → HistoriesAreWhole → QuietSlotOnlyCounts → FirstHasShape → SlotKeepsShape → IdleWhereNotBusy
idle_where_not_busy steps leaves whole quiet first keeps plan n node from to here later idle =
    let pass = λ (t : Slot) (least : from ≤ t) (before : t < to). passes steps plan n node here quiet first keeps t (idle t least before) in
    record {
      rec = was_idle steps plan n node here from to later (λ t least before. (or_parts _ _ (idle t least before)).0);
      events = stays_to (λ t. events_in (serial plan t) n) from to later (λ t least before. (pass t least before).events);
      sent = λ end link since out.
          carried_alike since from to later whole plan link
          (stays_to (λ t. history_in (serial plan t).histories link) from to later (λ t least before. (pass t least before).sent end link (leaves plan n end link out)));
    }

pub not_counted : QuietSlotsAreNotCounted
unfolding busy_count
not_counted plan n from to later idle =
    stays_to (busy_count plan n) from to later (λ t least before. counts_none t (idle t least before))
  where
    counts_none : (t : Slot) → is_busy plan n t ≡ false → busy_count plan n (suc t) ≡ busy_count plan n t
    counts_none t idle = let none : busy_count plan n t + 0 ≡ busy_count plan n t = omega arith in ap (λ (b : Bool). busy_count plan n t + (if b then 1 else 0)) idle ∙ none

pub first_busy : StepNeedsComing → FirstAlike → FirstBusySlot
first_busy steps alike plan n node from bound result here none found =
    alike _ (is_busy plan n) from bound result
    (λ t first within before.
    let same = was_idle steps plan n node here from t first (λ u least earlier. none u least (omega (arith, earlier, within))) in
    sym (ap₂ (λ arrives rec. arrives || stirs rec t) (none t first within) same))
    found
