use Rattle.std.proofs.Common.{◌-◌, ◌<◌, length, subst, arith}
use Rattle.serial_model.specs.Serial.{SystemRec}
use Rattle.run_plan.specs.Run.{AreReady}
use Rattle.run_plan.proofs.Steps.{since_none}
use Rattle.run_plan.specs.Passes.{levels_of}
use Rattle.run_plan.proofs.Skipped.{may_skip, tracks_here, wires_in, ready_later}
use Rattle.run_plan.proofs.Steady.{stay_here, stay_to}
use Rattle.run_plan.proofs.quiet.pass_quiet.Goals as goal

pub quiet_to-to-requires : goal.quiet_to-to-requires
quiet_to-to-requires c = record {
  tracks = tracks_here c.args.from (length c.args.stations.now) c.args.tracks.now c.requires.tracks;
  wires = wires_in c.args.from (levels_of c.args.stations.now) c.args.wires.now c.requires.wires;
}

pub skip_all-requires-clause-stations : goal.skip_all-requires-clause-stations
skip_all-requires-clause-stations c =
    let to = c.quiet_to-to.result in
    let some : c.args.from < to = omega (arith, c.if-to-from.false) in
    may_skip c.args.from to (length c.args.tracks.now) c.args.stations.now c.requires.stations (c.quiet_to-to.ensures.quiet some).nodes

pub returns-then-to-from-clause-ready : goal.returns-then-to-from-clause-ready
returns-then-to-from-clause-ready c = λ plan shown whole ready.
    let from = c.args.from in
    subst (λ (system : SystemRec). AreReady plan shown from system c.args.stations.now c.args.tracks.now c.args.wires.now)
    (since_none plan (record { slot = from; system = whole; shown = shown }) (from - from) (omega arith)) ready

pub returns-then-to-from-clause-steady : goal.returns-then-to-from-clause-steady
returns-then-to-from-clause-steady c = λ steady plan shown whole ready slot n on within. stay_here plan (record { slot = c.args.from; system = whole; shown = shown }) slot on within n

pub returns-clause-ready : goal.returns-clause-ready
returns-clause-ready c = λ plan shown whole ready.
    let to = c.quiet_to-to.result in
    let some : c.args.from < to = omega (arith, c.if-to-from.false) in
    ready_later c.first_stirring_slot.ensures.still c.quiet_slots_only_count.ensures.slot c.slot_tells_pins.ensures.driven c.slot_has_few_events.ensures.slot plan shown c.args.from to some whole
    c.args.stations.now c.args.tracks.now c.args.wires.now ready (c.quiet_to-to.ensures.quiet some) c.skip_all.new.stations c.skip_all.ensures.skips

pub returns-clause-steady : goal.returns-clause-steady
returns-clause-steady c = λ steady plan shown whole ready.
    let to = c.quiet_to-to.result in
    let some : c.args.from < to = omega (arith, c.if-to-from.false) in
    stay_to c.first_stirring_slot.ensures.still c.quiet_slots_only_count.ensures.slot c.quiet_slots_only_count.ensures.slots c.slot_tells_pins.ensures.driven c.slot_has_few_events.ensures.slot
    plan shown c.args.from to whole c.args.stations.now c.args.tracks.now c.args.wires.now ready (c.quiet_to-to.ensures.quiet some) steady
