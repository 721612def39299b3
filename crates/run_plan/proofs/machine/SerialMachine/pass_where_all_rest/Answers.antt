use Rattle.std.proofs.Common.{rules, sym, subst, arith}
use Rattle.std.proofs.lemmas.List.{with_items_is, places}
use Rattle.serial_model.specs.Serial.{SystemRec}
use Rattle.run_plan.specs.Machine.{system_of}
use Rattle.run_plan.specs.Inside.{begun_with, seen_of}
use Rattle.run_plan.specs.Run.{AreReady}
use Rattle.run_plan.proofs.Steps.{since_later}
use Rattle.run_plan.proofs.Systems.{ready-alike}
use Rattle.run_plan.proofs.machine.SerialMachine.pass_where_all_rest.Goals as goal

pub invariant_of-self : goal.invariant_of-self
invariant_of-self c =
    let m = c.self.inside in
    let plan = m.plan.value in
    let shown = (begun_with m).shown in
    let whole = system_of (seen_of m) in
    let to = c.pass_quiet-self-inside.result in
    let now = c.pass_quiet-self-inside.new.stations in
    let on = c.pass_quiet-self-inside.ensures.on in
    let lent = ready-alike plan shown m.clock whole c.deref_mut.ensures.value c.deref.ensures.value c.deref-2.ensures.value c.self.invariant.ready in
    let later =
    subst (λ (after : SystemRec). AreReady plan shown to after now c.deref.result.now c.deref-2.result.now) (since_later plan (begun_with m) m.clock to c.self.invariant.on on)
    (c.pass_quiet-self-inside.ensures.ready plan shown whole lent) in
    let stations = with_items_is m.stations now (search (rules, places)) in
    record {
      on = omega (arith, c.self.invariant.on, on);
      ready = ready-alike plan shown to _ stations (sym c.deref.ensures.value) (sym c.deref-2.ensures.value) later;
    }
