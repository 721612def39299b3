use Rattle.std.proofs.Common.{refl, arith}
use Rattle.std.specs.Prelude.{slice_index_or}
use Rattle.run_plan.specs.Passes.{MakesLevelRoom, SameWire, HasLevelRoom}
use Rattle.run_plan.proofs.Through.{through-next, through-more, through-all, through-weaker, zip-second}
use Rattle.run_plan.proofs.Systems.{same-wire}
use Rattle.run_plan.proofs.passes.make_level_room.Goals as goal

pub returns-in_err-reserve-clause-same : goal.returns-in_err-reserve-clause-same
returns-in_err-reserve-clause-same c =
    let before = slice_index_or c.loop-wire.wires c.loop-wire.wire-index c.wire-item.result in
    through-next MakesLevelRoom SameWire (λ x y r. r.same) (λ x. refl) c.loop-wire.wire-index c.args.wires.now c.loop-wire.wires c.wire-item.result _ c.loop-wire.invariant.through
    (omega arith) (same-wire before c.reserve.new.self c.reserve.ensures.entries)

pub loop-wire-preserved : goal.loop-wire-preserved
loop-wire-preserved c =
    let before = slice_index_or c.loop-wire.wires c.loop-wire.wire-index c.wire-item.result in
    record {
      through =
          through-more MakesLevelRoom c.loop-wire.wire-index c.args.wires.now c.loop-wire.wires c.wire-item.result _ c.loop-wire.invariant.through (omega arith)
          (record { same = same-wire before c.reserve.new.self c.reserve.ensures.entries; room = c.in_ok-reserve.ensures.room });
    }

pub returns-clause-same : goal.returns-clause-same
returns-clause-same c =
    through-weaker MakesLevelRoom SameWire (λ x y r. r.same) (λ x. refl) c.loop-wire.wire-index c.args.wires.now c.loop-wire.wires c.loop-wire.invariant.through

pub returns-clause-room : goal.returns-clause-room
returns-clause-room c =
    zip-second MakesLevelRoom HasLevelRoom (λ x y r. r.room) c.args.wires.now c.loop-wire.wires
    (through-all MakesLevelRoom c.loop-wire.wire-index c.args.wires.now c.loop-wire.wires c.loop-wire.invariant.through (omega arith))
