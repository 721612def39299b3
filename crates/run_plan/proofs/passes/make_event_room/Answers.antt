use Rattle.std.proofs.Common.{refl, arith}
use Rattle.run_plan.specs.Passes.{MakesEventRoom, SameStation, HasRoomForEvents}
use Rattle.run_plan.proofs.Through.{through-next, through-more, through-all, through-weaker, zip-second}
use Rattle.run_plan.proofs.Systems.{same-itself}
use Rattle.run_plan.proofs.passes.make_event_room.Goals as goal

pub returns-in_err-reserve-clause-same : goal.returns-in_err-reserve-clause-same
returns-in_err-reserve-clause-same c =
    through-next MakesEventRoom SameStation (λ x y r. r.same) same-itself c.loop-station.station-index c.args.stations.now c.loop-station.stations c.station-item.result _ c.loop-station.invariant.through
    (omega arith) (record { node = record { seat = c.reserve.ensures.same; pins = refl; incoming = refl }; due = refl })

pub loop-station-preserved : goal.loop-station-preserved
loop-station-preserved c =
    record {
      through =
          through-more MakesEventRoom c.loop-station.station-index c.args.stations.now c.loop-station.stations c.station-item.result _ c.loop-station.invariant.through (omega arith)
          (record { same = record { node = record { seat = c.reserve.ensures.same; pins = refl; incoming = refl }; due = refl }; room = c.in_ok-reserve.ensures.room });
    }

pub returns-clause-same : goal.returns-clause-same
returns-clause-same c =
    through-weaker MakesEventRoom SameStation (λ x y r. r.same) same-itself c.loop-station.station-index c.args.stations.now c.loop-station.stations c.loop-station.invariant.through

pub returns-clause-room : goal.returns-clause-room
returns-clause-room c =
    zip-second MakesEventRoom HasRoomForEvents (λ x y r. r.room) c.args.stations.now c.loop-station.stations
    (through-all MakesEventRoom c.loop-station.station-index c.args.stations.now c.loop-station.stations c.loop-station.invariant.through (omega arith))
