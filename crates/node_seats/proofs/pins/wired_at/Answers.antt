use Rattle.std.proofs.Common.{◌≡◌, ◌<◌, ◌≤◌, ◌||◌, List, length, get_or, sym, ap, ◌∙◌, arith}
use Rattle.std.specs.List.{list_any}
use Rattle.std.proofs.lemmas.List.{take_all}
use Rattle.std.proofs.lemmas.List.Folds.{list_any_more}
use Rattle.sys_plan.specs.declared.WirePlan.{WirePlan}
use Rattle.node_seats.specs.Shown.{joins_pin}
use Rattle.node_seats.proofs.Wired.{no_wire, wired-is, port-at}
use Rattle.node_seats.proofs.pins.wired_at.Goals as goal

pub with_wire-wired-requires : goal.with_wire-wired-requires
with_wire-wired-requires c =
    let same = c.wires-wire-items.ensures.value in
    let plan = c.args.plan.now in
    let inside : c.loop-wire.wire-index < length plan.wires = omega (arith, ap (λ (ws : List WirePlan). length ws) same) in
    record { port = port-at (length plan.nodes) plan.wires c.wires-wire-items.result.now c.loop-wire.wire-index c.wires-wire-items.ensures.plan.wires same inside }

pub loop-wire-preserved : goal.loop-wire-preserved
loop-wire-preserved c =
    let same = c.wires-wire-items.ensures.value in
    let plan = c.args.plan.now in
    let i = c.loop-wire.wire-index in
    let inside : i < length plan.wires = omega (arith, ap (λ (ws : List WirePlan). length ws) same) in
    record {
      ports = λ port within.
          c.with_wire-wired.ensures port within
          ∙ (λ k. c.loop-wire.invariant.ports port within k || joins_pin c.args.n port (get_or (same k) i no_wire))
          ∙ sym (list_any_more (joins_pin c.args.n port) plan.wires i no_wire inside);
    }

pub returns : goal.returns
returns c = λ port within.
    let plan = c.args.plan.now in
    let i = c.loop-wire.wire-index in
    let all : length plan.wires ≤ i = omega (arith, ap (λ (ws : List WirePlan). length ws) c.wires-wire-items.ensures.value) in
    c.loop-wire.invariant.ports port within
    ∙ ap (λ (ws : List WirePlan). list_any (joins_pin c.args.n port) ws) (take_all i plan.wires all)
    ∙ sym (wired-is plan c.args.n port)
