use Rattle.std.proofs.Common.{refl, arith}
use Rattle.std.specs.Prelude.{slice_index_or}
use Rattle.run_plan.specs.Passes.{MakesEntryRoom, SameTrack, HasEntryRoom}
use Rattle.run_plan.proofs.Through.{through-next, through-more, through-all, through-weaker, zip-second}
use Rattle.run_plan.proofs.Systems.{same-track}
use Rattle.run_plan.proofs.passes.make_entry_room.Goals as goal

pub returns-in_err-reserve-clause-same : goal.returns-in_err-reserve-clause-same
returns-in_err-reserve-clause-same c =
    let before = slice_index_or c.loop-track.tracks c.loop-track.track-index c.track-item.result in
    through-next MakesEntryRoom SameTrack (λ x y r. r.same) (λ x. refl) c.loop-track.track-index c.args.tracks.now c.loop-track.tracks c.track-item.result _ c.loop-track.invariant.through
    (omega arith) (same-track before c.reserve.new.self c.reserve.ensures.entries)

pub loop-track-preserved : goal.loop-track-preserved
loop-track-preserved c =
    let before = slice_index_or c.loop-track.tracks c.loop-track.track-index c.track-item.result in
    record {
      through =
          through-more MakesEntryRoom c.loop-track.track-index c.args.tracks.now c.loop-track.tracks c.track-item.result _ c.loop-track.invariant.through (omega arith)
          (record { same = same-track before c.reserve.new.self c.reserve.ensures.entries; room = c.in_ok-reserve.ensures.room });
    }

pub returns-clause-same : goal.returns-clause-same
returns-clause-same c =
    through-weaker MakesEntryRoom SameTrack (λ x y r. r.same) (λ x. refl) c.loop-track.track-index c.args.tracks.now c.loop-track.tracks c.loop-track.invariant.through

pub returns-clause-room : goal.returns-clause-room
returns-clause-room c =
    zip-second MakesEntryRoom HasEntryRoom (λ x y r. r.room) c.args.tracks.now c.loop-track.tracks
    (through-all MakesEntryRoom c.loop-track.track-index c.args.tracks.now c.loop-track.tracks c.loop-track.invariant.through (omega arith))
