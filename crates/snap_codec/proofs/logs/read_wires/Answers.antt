use Rattle.std.proofs.Common.{◌≡◌, ◌<◌, ◌≤◌, List, [], ◌∷◌, ◌++◌, length, map, Ok, ap, subst, ◌∙◌, arith}
use Rattle.std.proofs.lemmas.List.{length_push, map_push}
use Rattle.std.proofs.lemmas.Result.{err_from_is_err_and}
use Rattle.xs_base.specs.Ids.{port_width}
use Rattle.sys_plan.specs.declared.WirePlan.{WirePlan}
use Rattle.snap_parts.specs.Parts.{seen}
use Rattle.byte_forms.specs.Reading.{Refuses}
use Rattle.byte_forms.proofs.Lists.{reads_on, refuses_all, reads_all}
use Rattle.log_forms.specs.Logs.{wire_log}
use Rattle.snap_codec.specs.Body.{wire_after}
use Rattle.snap_codec.proofs.Loops.{wire_is}
use Rattle.snap_codec.proofs.logs.read_wires.Goals as goal

pub returns-in_err-log : goal.returns-in_err-log
returns-in_err-log c =
    let p = err_from_is_err_and c.from_residual.result c.from_residual.ensures.1 in
    let plan = c.args.plan.now in
    let slot = c.args.slot in
    let fault = c.in_err-log.field-0.0 in
    let i = c.loop-wire.wire-index in
    let before = map seen c.loop-wire.logs.items in
    let lt = subst (λ (ws : List WirePlan). i < length ws) c.wires-each.ensures.value c.loop-wire-test.true in
    let wire = wire_is plan.wires c.wires-each.result.now i (length before) _ c.wires-each.ensures.value c.loop-wire.invariant.len c.loop-wire-test.true in
    let here = subst (λ (w : WirePlan). Refuses (wire_log slot w.delay (port_width w.b_port)) c.loop-wire.from fault) wire c.in_err-log.ensures.value in
    let refused = refuses_all (wire_after plan slot) (length plan.wires) i before c.loop-wire.from c.args.from.now c.loop-wire.invariant.so_far fault lt here in
    rw (p.1, p.2) (record { value = refused })

pub loop-wire-preserved : goal.loop-wire-preserved
loop-wire-preserved c =
    let plan = c.args.plan.now in
    let slot = c.args.slot in
    let i = c.loop-wire.wire-index in
    let before = map seen c.loop-wire.logs.items in
    let log = seen c.in_ok-log.log in
    let new : map seen c.push.new.self.items ≡ before ++ log ∷ [] = ap (map seen) c.in_ok-push.ensures.items ∙ map_push seen c.loop-wire.logs.items c.in_ok-log.log in
    let lt = subst (λ (ws : List WirePlan). i < length ws) c.wires-each.ensures.value c.loop-wire-test.true in
    let wire = wire_is plan.wires c.wires-each.result.now i (length before) _ c.wires-each.ensures.value c.loop-wire.invariant.len c.loop-wire-test.true in
    let here = subst (λ (w : WirePlan). (wire_log slot w.delay (port_width w.b_port)).read c.loop-wire.from ≡ Ok (log, c.read_wire.new.from)) wire c.in_ok-log.ensures.value in
    record {
      len = ap length new ∙ omega (arith, length_push before log, c.loop-wire.invariant.len);
      so_far = rw new (reads_on (wire_after plan slot) (length plan.wires) i before c.loop-wire.from c.args.from.now c.loop-wire.invariant.so_far log c.read_wire.new.from lt here);
    }

pub returns : goal.returns
returns c =
    let plan = c.args.plan.now in
    let le = subst (λ (ws : List WirePlan). length ws ≤ c.loop-wire.wire-index) c.wires-each.ensures.value c.loop-wire-test.false in
    record {
      value = reads_all (wire_after plan c.args.slot) (length plan.wires) c.loop-wire.wire-index (map seen c.loop-wire.logs.items) c.loop-wire.from c.args.from.now c.loop-wire.invariant.so_far le;
    }
