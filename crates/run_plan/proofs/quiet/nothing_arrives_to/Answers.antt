use Rattle.std.proofs.Common.{◌≤◌, arith}
use Rattle.run_plan.specs.Tracks.{IsTrack}
use Rattle.run_plan.specs.Quiet.{ArrivesAfter}
use Rattle.run_plan.proofs.Waiting.{after_sooner}
use Rattle.run_plan.proofs.Through.{first-item, first-all, all-first, all-both}
use Rattle.run_plan.proofs.quiet.nothing_arrives_to.Goals as goal

pub loop-track-preserved : goal.loop-track-preserved
loop-track-preserved c =
    let from = c.args.from in
    let to = c.nothing_arrives_to-to.result in
    let i = c.loop-track.track-index in
    let tracks = c.args.tracks.now in
    let on : from ≤ to = omega (arith, c.if-to-from.false) in
    let so_far =
    all-both (IsTrack from) (ArrivesAfter c.loop-track.to) (ArrivesAfter to) (λ t is after. after_sooner from to c.loop-track.to t on c.nothing_arrives_to-to.ensures.within is after) _
    (all-first (IsTrack from) i tracks c.requires.tracks) c.loop-track.invariant.quiet in
    record {
      within = omega (arith, c.nothing_arrives_to-to.ensures.within, c.loop-track.invariant.within);
      quiet = first-item (ArrivesAfter to) i tracks c.track-item.result so_far (omega arith) c.track-item.is (c.nothing_arrives_to-to.ensures.quiet on);
    }

pub returns-clause-quiet : goal.returns-clause-quiet
returns-clause-quiet c = λ on. first-all (ArrivesAfter c.loop-track.to) c.loop-track.track-index c.args.tracks.now c.loop-track.invariant.quiet (omega arith)
