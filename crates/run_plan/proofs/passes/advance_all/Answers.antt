use Rattle.std.proofs.Common.{◌+◌, ◌<◌, List, length, refl, sym, subst, arith}
use Rattle.std.specs.Prelude.{slice_index_or, slice_set}
use Rattle.std.specs.List.{AllZip}
use Rattle.xs_model.specs.Outside.{Emitted}
use Rattle.serial_model.specs.Serial.{sent_by}
use Rattle.run_plan.specs.declared.station.Station.{Station}
use Rattle.run_plan.specs.declared.track.Track.{Track}
use Rattle.run_plan.specs.Tracks.{GoesOn}
use Rattle.run_plan.specs.Passes.{Through, HasEntryRoom, IsReadyTrack, Advances, SameButDue}
use Rattle.run_plan.proofs.Through.{zip-refl, zip-length, through-at, through-all}
use Rattle.run_plan.proofs.Due.{same-but-due, sender-gave, on-with-nothing, on-to-due}
use Rattle.run_plan.proofs.passes.advance_all.Goals.{then-go_on, else-go_on}
use Rattle.run_plan.proofs.passes.advance_all.Goals as goal

pub loop-track-init : goal.loop-track-init
loop-track-init c = record { through = refl; same = zip-refl SameButDue (λ x. record { seat = refl; pins = refl; incoming = refl }) c.args.stations.now }

pub bounds-stations-track : goal.bounds-stations-track
bounds-stations-track c =
    let nodes = c.args.stations.now in
    let stations = c.loop-track.stations in
    let ready = through-at (Advances c.args.slot nodes stations) (IsReadyTrack c.args.slot (length nodes)) c.loop-track.track-index c.args.tracks.now c.loop-track.tracks c.track-item.result c.loop-track.invariant.through c.requires.tracks (omega arith) in
    omega (arith, ready.from, zip-length SameButDue nodes stations c.loop-track.invariant.same)

pub go_on-requires-clause-track : goal.go_on-requires-clause-track
go_on-requires-clause-track c =
    let nodes = c.args.stations.now in
    (through-at (Advances c.args.slot nodes c.loop-track.stations) (IsReadyTrack c.args.slot (length nodes)) c.loop-track.track-index c.args.tracks.now c.loop-track.tracks c.track-item.result c.loop-track.invariant.through c.requires.tracks (omega arith)).here

pub go_on-requires-clause-room : goal.go_on-requires-clause-room
go_on-requires-clause-room c =
    through-at (Advances c.args.slot c.args.stations.now c.loop-track.stations) HasEntryRoom c.loop-track.track-index c.args.tracks.now c.loop-track.tracks c.track-item.result c.loop-track.invariant.through c.requires.room (omega arith)

pub bounds-stations-track-then-go_on : goal.bounds-stations-track-then-go_on
bounds-stations-track-then-go_on c =
    let nodes = c.args.stations.now in
    let stations = c.loop-track.stations in
    let ready = through-at (Advances c.args.slot nodes stations) (IsReadyTrack c.args.slot (length nodes)) c.loop-track.track-index c.args.tracks.now c.loop-track.tracks c.track-item.result c.loop-track.invariant.through c.requires.tracks (omega arith) in
    omega (arith, ready.to, c.go_on.ensures.next.to, zip-length SameButDue nodes stations c.loop-track.invariant.same)

pub bounds-stations-track-then-go_on-2 : goal.bounds-stations-track-then-go_on-2
bounds-stations-track-then-go_on-2 c =
    let nodes = c.args.stations.now in
    let stations = c.loop-track.stations in
    let ready = through-at (Advances c.args.slot nodes stations) (IsReadyTrack c.args.slot (length nodes)) c.loop-track.track-index c.args.tracks.now c.loop-track.tracks c.track-item.result c.loop-track.invariant.through c.requires.tracks (omega arith) in
    omega (arith, ready.to, c.go_on.ensures.next.to, zip-length SameButDue nodes stations c.loop-track.invariant.same)

pub loop-track-preserved : goal.loop-track-preserved
loop-track-preserved c =
    let slot = c.args.slot in
    let nodes = c.args.stations.now in
    let stations = c.loop-track.stations in
    let tracks = c.args.tracks.now in
    let now = c.loop-track.tracks in
    let i = c.loop-track.track-index in
    let before = slice_index_or now i c.track-item.result in
    let after = c.go_on.new.self in
    let so_far = c.loop-track.invariant.through in
    let same = c.loop-track.invariant.same in
    let inside : i < length now = omega arith in
    let ready = through-at (Advances slot nodes stations) (IsReadyTrack slot (length nodes)) i tracks now c.track-item.result so_far c.requires.tracks inside in
    let count = zip-length SameButDue nodes stations same in
    let sender = sender-gave nodes stations before.from c.index-stations-track.result same (omega (arith, ready.from, count)) in
    let on = subst (λ (g : Emitted). GoesOn slot (sent_by slot g before.from_end) before after) sender c.go_on.ensures.next in
    let there : after.to < length stations = omega (arith, ready.to, c.go_on.ensures.next.to, count) in
    elim c.if-go_on.branch [
      | then-go_on w ↦ record {
        through =
            subst (λ (ts : List Track). Through (Advances slot nodes c.if-go_on.stations) (i + 1) tracks ts) (sym w.tracks-is)
            (subst (λ (ss : List Station). Through (Advances slot nodes ss) (i + 1) tracks (slice_set now i after)) (sym w.stations-is)
            (on-to-due slot nodes stations i tracks now c.track-item.result after so_far inside on _ refl there));
        same = subst (AllZip SameButDue nodes) (sym w.stations-is) (same-but-due nodes stations after.to _ same);
      }
      | else-go_on w ↦ record {
        through =
            subst (λ (ts : List Track). Through (Advances slot nodes c.if-go_on.stations) (i + 1) tracks ts) (sym w.tracks-is)
            (subst (λ (ss : List Station). Through (Advances slot nodes ss) (i + 1) tracks (slice_set now i after)) (sym w.stations-is)
            (on-with-nothing slot nodes stations i tracks now c.track-item.result after so_far inside on (w.if-go_on.ensures.quiet refl)));
        same = subst (AllZip SameButDue nodes) (sym w.stations-is) same;
      }
    ]

pub returns : goal.returns
returns c = record {
  advances = through-all (Advances c.args.slot c.args.stations.now c.loop-track.stations) c.loop-track.track-index c.args.tracks.now c.loop-track.tracks c.loop-track.invariant.through (omega arith);
  same = c.loop-track.invariant.same;
}
