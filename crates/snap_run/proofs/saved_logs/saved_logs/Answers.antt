use Rattle.std.proofs.Common.{◌≡◌, ◌<◌, ◌≤◌, ◌*◌, leb, List, [], ◌∷◌, ◌++◌, length, map, sym, ap, ◌∙◌, subst, arith}
use Rattle.std.specs.List.{AllByRecursion}
use Rattle.std.proofs.lemmas.List.{map-append}
use Rattle.xs_base.specs.declared.entry.Entry.{Entry}
use Rattle.sys_plan.specs.declared.LinkPlan.{LinkPlan}
use Rattle.sys_plan.specs.Plan.{arc_count}
use Rattle.sys_plan.proofs.Arcs.{arcs_length}
use Rattle.sys_plan.proofs.Told.{arcs-count}
use Rattle.serial_model.specs.Serial.{serial}
use Rattle.locality_laws.specs.Locality.{history_in}
use Rattle.snap_parts.specs.Parts.{seen}
use Rattle.snap_model.specs.Saved.{saved_log}
use Rattle.snap_run.specs.Keeping.{is_wire}
use Rattle.snap_run.proofs.Saved.{logs_more, logs_whole, arc_at, delay_is, wire_is}
use Rattle.snap_run.proofs.saved_logs.saved_logs.Goals as goal

pub history_of-history-requires-clause-link : goal.history_of-history-requires-clause-link
history_of-history-requires-clause-link c =
    let plan = c.args.plan.now in
    omega (arith, arcs-count plan, arcs_length plan.links, ap length c.links.ensures.value, ap length c.wires.ensures.value, c.loop-k-test.true)

pub delay-delay-requires : goal.delay-delay-requires
delay-delay-requires c =
    let plan = c.args.plan.now in
    record { number = omega (arith, arcs-count plan, arcs_length plan.links, ap length c.links.ensures.value, ap length c.wires.ensures.value, c.loop-k-test.true) }

pub saved_log-requires : goal.saved_log-requires
saved_log-requires c = record {
  before =
      subst (λ slot. AllByRecursion (λ (e : Entry). e.slot < slot) c.history_of-history.result.now) (sym c.now.ensures.value)
      c.history_of-history.ensures.before;
}

pub loop-k-preserved : goal.loop-k-preserved
loop-k-preserved c =
    let plan = c.args.plan.now in
    let slot = c.args.machine.now.now in
    let k = c.loop-k.k in
    let inside : k < arc_count plan =
    omega (arith, arcs-count plan, arcs_length plan.links, ap length c.links.ensures.value, ap length c.wires.ensures.value, c.loop-k-test.true) in
    let d = arc_at plan k in
    let wire : is_wire d.joins ≡ leb (2 * length c.links.result.now) k = wire_is plan k inside ∙ ap (λ (links : List LinkPlan). leb (2 * length links) k) (sym c.links.ensures.value) in
    let log : seen c.in_ok-log.log ≡ saved_log slot d (history_in (serial plan slot).histories k) =
    c.in_ok-log.ensures.saved d (delay_is plan k inside ∙ sym c.delay-delay.ensures.value) wire
    ∙ (λ i. saved_log (c.now.ensures.value i) d (c.history_of-history.ensures.value i)) in
    record {
      saved =
          ap (map seen) c.in_ok-push.ensures.items
          ∙ map-append seen c.loop-k.logs.items (c.in_ok-log.log ∷ [])
          ∙ (λ i. c.loop-k.invariant.saved i ++ log i ∷ [])
          ∙ sym (logs_more plan slot k inside);
    }

pub returns : goal.returns
returns c =
    let plan = c.args.plan.now in
    let all : arc_count plan ≤ c.loop-k.k =
    omega (arith, arcs-count plan, arcs_length plan.links, ap length c.links.ensures.value, ap length c.wires.ensures.value, c.loop-k-test.false) in
    record { saved = c.loop-k.invariant.saved ∙ logs_whole plan c.args.machine.now.now c.loop-k.k all }
