use Rattle.std.proofs.Common.{◌≤◌, arith}
use Rattle.run_plan.specs.Wires.{IsWire}
use Rattle.run_plan.specs.Quiet.{ComesAfter}
use Rattle.run_plan.proofs.Wires.{comes_sooner}
use Rattle.run_plan.proofs.Through.{first-item, first-all, all-first, all-both}
use Rattle.run_plan.proofs.quiet.nothing_comes_to.Goals as goal

pub loop-wire-preserved : goal.loop-wire-preserved
loop-wire-preserved c =
    let from = c.args.from in
    let to = c.nothing_comes_to-to.result in
    let i = c.loop-wire.wire-index in
    let wires = c.args.wires.now in
    let on : from ≤ to = omega (arith, c.if-to-from.false) in
    let so_far =
    all-both (IsWire from) (ComesAfter c.loop-wire.to) (ComesAfter to) (λ t is after. comes_sooner from to c.loop-wire.to t on c.nothing_comes_to-to.ensures.within is after) _
    (all-first (IsWire from) i wires c.requires.wires) c.loop-wire.invariant.quiet in
    record {
      within = omega (arith, c.nothing_comes_to-to.ensures.within, c.loop-wire.invariant.within);
      quiet = first-item (ComesAfter to) i wires c.wire-item.result so_far (omega arith) c.wire-item.is (c.nothing_comes_to-to.ensures.quiet on);
    }

pub returns-clause-quiet : goal.returns-clause-quiet
returns-clause-quiet c = λ on. first-all (ComesAfter c.loop-wire.to) c.loop-wire.wire-index c.args.wires.now c.loop-wire.invariant.quiet (omega arith)
