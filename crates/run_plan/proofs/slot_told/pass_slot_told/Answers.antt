use Rattle.run_plan.proofs.Passed.{on_err, roomy-stations, stepped-tracks, stepped-wires, stepped-shown}
use Rattle.run_plan.proofs.Systems.{ready-same, system-told}
use Rattle.run_plan.proofs.slot_told.pass_slot_told.Goals as goal

pub returns-in_err-make_room-clause-err : goal.returns-in_err-make_room-clause-err
returns-in_err-make_room-clause-err c =
    on_err c.from_residual.result (λ plan shown whole ready. ready-same plan shown c.args.slot whole _ _ _ _ _ _ ready c.make_room.ensures.stations c.make_room.ensures.tracks c.make_room.ensures.wires)

pub step_all_told-requires-clause-stations : goal.step_all_told-requires-clause-stations
step_all_told-requires-clause-stations c =
    let roomy = c.make_room in
    roomy-stations c.args.slot c.args.stations.now roomy.new.stations c.args.tracks.now roomy.new.tracks roomy.ensures.stations roomy.ensures.tracks c.requires.stations

pub carry-requires-clause-tracks : goal.carry-requires-clause-tracks
carry-requires-clause-tracks c =
    let roomy = c.make_room in
    stepped-tracks c.args.slot c.args.stations.now roomy.new.stations c.args.tracks.now roomy.new.tracks roomy.ensures.stations roomy.ensures.tracks c.step_all_told.new.stations c.step_all_told.ensures.steps c.requires.tracks

pub carry-requires-clause-wires : goal.carry-requires-clause-wires
carry-requires-clause-wires c =
    let roomy = c.make_room in
    stepped-wires c.args.slot c.args.stations.now roomy.new.stations c.args.tracks.now roomy.new.tracks roomy.ensures.stations roomy.ensures.tracks c.step_all_told.new.stations c.step_all_told.ensures.steps
    c.args.wires.now roomy.new.wires roomy.ensures.wires c.requires.wires

pub carry-requires-clause-shown : goal.carry-requires-clause-shown
carry-requires-clause-shown c =
    let roomy = c.make_room in
    stepped-shown c.args.slot c.args.stations.now roomy.new.stations c.args.tracks.now roomy.new.tracks roomy.ensures.stations roomy.ensures.tracks c.step_all_told.new.stations c.step_all_told.ensures.steps

pub returns-clause-ok : goal.returns-clause-ok
returns-clause-ok c = λ plan shown whole ready.
    c.carry.ensures.next plan shown whole c.make_room.new.stations
    (ready-same plan shown c.args.slot whole _ _ _ _ _ _ ready c.make_room.ensures.stations c.make_room.ensures.tracks c.make_room.ensures.wires) c.step_all_told.ensures.steps

pub returns-clause-told : goal.returns-clause-told
returns-clause-told c = λ plan shown whole ready.
    system-told plan shown c.args.slot whole _ _ _ _
    (ready-same plan shown c.args.slot whole _ _ _ _ _ _ ready c.make_room.ensures.stations c.make_room.ensures.tracks c.make_room.ensures.wires)
    c.step_all_told.ensures.told
