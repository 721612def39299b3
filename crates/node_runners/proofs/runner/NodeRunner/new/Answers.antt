use Rattle.std.proofs.Common.{ℕ, ◌≡◌, ◌+◌, ◌<◌, ◌≤◌, ◌^◌, None, List, length, replicate, sym, ap, subst, arith}
use Rattle.sys_plan.specs.Plan.{PlanRec, incoming, count_to}
use Rattle.sys_plan.specs.declared.system_plan.TheConstants.{ENDS}
use Rattle.ahead_limits.specs.Horizon.{HorizonRec}
use Rattle.node_runners.specs.declared.inlets.Inlets.{Inlets}
use Rattle.node_runners.specs.declared.wire_inlets.WireInlet.{WireInlet}
use Rattle.node_runners.specs.Queue.{InletRec, inlet_at}
use Rattle.node_runners.specs.Wires.{wire_in}
use Rattle.node_runners.specs.Sent.{OutletsRec}
use Rattle.node_runners.specs.Starts.{first_inlet, FirstIn}
use Rattle.node_runners.specs.Inside.{IsRunner}
use Rattle.node_runners.proofs.Begins.{runner-start, horizon}
use Rattle.node_runners.proofs.runner.NodeRunner.new.Goals as goal

pub invariant_of-result : goal.invariant_of-result
invariant_of-result c =
    let plan = c.args.plan.now in
    let n = c.args.node in
    let is = c.inlets_of.ensures.plan in
    let links = c.of-4.result in
    let wires = c.of-5.result in
    let inlets : Inlets = record { links = links; wires = wires } in
    let outlets : OutletsRec = record { links = c.in_ok-batches.batches.items; wires = c.in_ok-wires_out.wires_out.items } in
    let small : c.args.limit < 2 ^ 32 = omega arith in
    let few : length links.ends ≤ 8 = omega (arith, c.in_ok-ends.ensures.few, ap length c.of-4.ensures) in
    let fresh = subst (λ (xs : List InletRec). (end : ℕ) → end < length xs → inlet_at xs end ≡ first_inlet plan (incoming plan n end)) (sym c.of-4.ensures) c.in_ok-ends.ensures.fresh in
    let rest = subst (λ (xs : List InletRec). (end : ℕ) → length xs ≤ end → end < 8 → incoming plan n end ≡ None) (sym c.of-4.ensures) c.in_ok-ends.ensures.rest in
    let all = subst (λ (ws : List WireInlet). length ws ≡ count_to n plan.wires) (sym c.of-5.ensures) c.in_ok-wires.ensures.all in
    let first = subst (λ (ws : List WireInlet). (k : ℕ) → k < length ws → FirstIn plan n (8 + k) (wire_in ws k)) (sym c.of-5.ensures) c.in_ok-wires.ensures.fresh in (
      omega arith,
      subst (λ (p : PlanRec). IsRunner p n 0 c.of-horizon.result c.in_ok-seat.seat c.in_ok-pins.pins inlets c.of-6.result (replicate ENDS 0)) (sym c.of-3.ensures)
          (subst (λ (h : HorizonRec). IsRunner plan n 0 h c.in_ok-seat.seat c.in_ok-pins.pins inlets c.of-6.result (replicate ENDS 0)) (sym c.of-horizon.ensures.value)
          (subst (λ (o : OutletsRec). IsRunner plan n 0 (horizon plan is n c.args.limit) c.in_ok-seat.seat c.in_ok-pins.pins inlets o (replicate ENDS 0)) (sym c.of-6.ensures)
          (runner-start plan is n c.args.limit inlets few fresh rest all first outlets c.in_ok-batches.ensures.few c.in_ok-batches.ensures.empty c.in_ok-batches.ensures.rest
          c.in_ok-wires_out.ensures.all c.in_ok-wires_out.ensures.fresh c.in_ok-seat.seat c.in_ok-pins.pins small c.requires.node c.in_ok-seat.ensures.plays c.in_ok-seat.ensures.ready
          c.in_ok-pins.ensures.pins c.in_ok-pins.ensures.levels c.in_ok-pins.ensures.due))),
    )
