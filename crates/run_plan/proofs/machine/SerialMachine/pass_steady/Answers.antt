use Rattle.std.proofs.Common.{◌≤◌, rules, length, sym, ap, ◌∙◌, subst, arith}
use Rattle.std.specs.List.{AllByRecursion}
use Rattle.std.proofs.lemmas.List.{with_items_is, places}
use Rattle.serial_model.specs.Serial.{SystemRec, node_by}
use Rattle.run_plan.specs.Machine.{MachineRec, system_of, LevelsStay}
use Rattle.run_plan.specs.Inside.{begun_with, seen_of}
use Rattle.run_plan.specs.Passes.{IsShownAt}
use Rattle.run_plan.specs.Run.{AreReady}
use Rattle.run_plan.specs.Steady.{IsSteadyTo}
use Rattle.run_plan.proofs.Steps.{since_later}
use Rattle.run_plan.proofs.Steady.{stations_shown, steady_sooner}
use Rattle.run_plan.proofs.Systems.{ready-alike}
use Rattle.run_plan.proofs.machine.SerialMachine.pass_steady.Goals as goal

pub pass_quiet-self-inside-requires-clause-before : goal.pass_quiet-self-inside-requires-clause-before
pass_quiet-self-inside-requires-clause-before c =
    let m = c.self.inside in
    let shown = stations_shown m.clock (length m.tracks.items) m.stations.items c.self.invariant.ready.stations in
    let before : m.clock ≤ c.args.limit = omega (arith, ap (λ (seen : MachineRec). seen.now) c.self.view_is, c.requires.before) in
    c.steady_to-to.ensures.on m.clock before (subst (AllByRecursion (IsShownAt m.clock)) (sym c.deref.ensures.value) shown)

pub invariant_of-self : goal.invariant_of-self
invariant_of-self c =
    let m = c.self.inside in
    let plan = m.plan.value in
    let shown = (begun_with m).shown in
    let whole = system_of (seen_of m) in
    let to = c.pass_quiet-self-inside.result in
    let now = c.pass_quiet-self-inside.new.stations in
    let on = c.pass_quiet-self-inside.ensures.on in
    let lent = ready-alike plan shown m.clock whole c.deref_mut.ensures.value c.deref-2.ensures.value c.deref-3.ensures.value c.self.invariant.ready in
    let later =
    subst (λ (after : SystemRec). AreReady plan shown to after now c.deref-2.result.now c.deref-3.result.now) (since_later plan (begun_with m) m.clock to c.self.invariant.on on)
    (c.pass_quiet-self-inside.ensures.ready plan shown whole lent) in
    let stations = with_items_is m.stations now (search (rules, places)) in
    record {
      on = omega (arith, c.self.invariant.on, on);
      ready = ready-alike plan shown to _ stations (sym c.deref-2.ensures.value) (sym c.deref-3.ensures.value) later;
    }

pub returns-clause-steady : goal.returns-clause-steady
returns-clause-steady c =
    let m = c.self.inside in
    let plan = m.plan.value in
    let shown = (begun_with m).shown in
    let whole = system_of (seen_of m) in
    let to = c.pass_quiet-self-inside.result in
    let lent = ready-alike plan shown m.clock whole c.deref_mut.ensures.value c.deref-2.ensures.value c.deref-3.ensures.value c.self.invariant.ready in
    let steady =
    subst (AllByRecursion (IsSteadyTo to)) (c.deref.ensures.value ∙ sym c.deref_mut.ensures.value)
    (steady_sooner to c.steady_to-to.result c.pass_quiet-self-inside.ensures.within c.deref.result.now c.steady_to-to.ensures.steady) in
    let stay : LevelsStay (seen_of m) (record (seen_of m) { now = to }) = λ slot n on within.
    ap (λ (s : SystemRec). (node_by s.nodes n).levels) (sym (since_later plan (begun_with m) m.clock slot c.self.invariant.on on))
    ∙ c.pass_quiet-self-inside.ensures.steady steady plan shown whole lent slot n on within in
    subst (λ (seen : MachineRec). LevelsStay seen (record (seen_of m) { now = to })) c.self.view_is stay
