use Rattle.std.proofs.Common.{◌≡◌, ◌+◌, ◌<◌, List, length, refl, sym, ◌∙◌, subst, arith}
use Rattle.std.specs.Prelude.{slice_index_or}
use Rattle.std.proofs.Math.Seq.{map-set_same}
use Rattle.std.proofs.lemmas.List.{length-map}
use Rattle.xs_model.specs.Record.{CoreRec}
use Rattle.sys_plan.specs.Plan.{AreDistinct}
use Rattle.run_plan.specs.declared.station.Station.{Station}
use Rattle.run_plan.specs.Wires.{IsReadyWire, HasCome, WireGoesOn, target}
use Rattle.run_plan.specs.Passes.{HasLevelRoom, SameButCome, cores_of, driven_by, levels_of}
use Rattle.run_plan.proofs.Through.{all-at, zip-length, through-at, through-more, through-all}
use Rattle.run_plan.proofs.Told.{GoesBy, none-told, told-twice, told-shown, cores-told, all-told, advances-all}
use Rattle.run_plan.proofs.passes.tell_all.Goals as goal

pub loop-wire-init : goal.loop-wire-init
loop-wire-init c = record { through = refl; same = none-told (c.args.slot + 1) c.args.stations.now; apart = c.requires.wires.apart; come = c.requires.wires.come }

pub tell-requires-clause-wire : goal.tell-requires-clause-wire
tell-requires-clause-wire c =
    let slot = c.args.slot in
    let nodes = c.args.stations.now in
    let stations = c.loop-wire.stations in
    let i = c.loop-wire.wire-index in
    let d = c.wire-item.result in
    let count : length (levels_of stations) ≡ length (levels_of nodes) =
    length-map stations (λ (s : Station). s.pins.levels) ∙ zip-length (SameButCome (slot + 1)) nodes stations c.loop-wire.invariant.same ∙ sym (length-map nodes (λ (s : Station). s.pins.levels)) in
    subst (λ n. IsReadyWire slot n (slice_index_or c.loop-wire.wires i d)) (sym count)
    (through-at (GoesBy slot (cores_of nodes)) (IsReadyWire slot (length (levels_of nodes))) i c.args.wires.now c.loop-wire.wires d c.loop-wire.invariant.through c.requires.wires.each (omega arith))

pub tell-requires-clause-room : goal.tell-requires-clause-room
tell-requires-clause-room c =
    through-at (GoesBy c.args.slot (cores_of c.args.stations.now)) HasLevelRoom c.loop-wire.wire-index c.args.wires.now c.loop-wire.wires c.wire-item.result c.loop-wire.invariant.through c.requires.room (omega arith)

pub tell-requires-clause-shown : goal.tell-requires-clause-shown
tell-requires-clause-shown c = told-shown (c.args.slot + 1) c.args.stations.now c.loop-wire.stations c.loop-wire.invariant.same c.requires.shown

pub tell-requires-clause-come : goal.tell-requires-clause-come
tell-requires-clause-come c = all-at (HasCome (levels_of c.loop-wire.stations)) c.loop-wire.wires c.loop-wire.wire-index c.wire-item.result c.loop-wire.invariant.come (omega arith)

pub loop-wire-preserved : goal.loop-wire-preserved
loop-wire-preserved c =
    let slot = c.args.slot in
    let nodes = c.args.stations.now in
    let stations = c.loop-wire.stations in
    let now = c.loop-wire.wires in
    let i = c.loop-wire.wire-index in
    let d = c.wire-item.result in
    let before = slice_index_or now i d in
    let after = c.tell.new.wire in
    let inside : i < length now = omega arith in
    let same = c.loop-wire.invariant.same in
    let on = c.tell.ensures.on in
    let goes = subst (λ (cores : List CoreRec). WireGoesOn slot (driven_by cores before.from before.from_port) before after) (cores-told (slot + 1) nodes stations same) on in
    let aim : target after ≡ target before = λ k. (on.to k, on.to_port k) in
    record {
      through = through-more (GoesBy slot (cores_of nodes)) i c.args.wires.now now d after c.loop-wire.invariant.through inside goes;
      same = told-twice (slot + 1) nodes stations c.tell.new.stations same c.tell.ensures.same;
      apart = subst AreDistinct (sym (map-set_same target now i after d aim)) c.loop-wire.invariant.apart;
      come = all-told (levels_of stations) (levels_of c.tell.new.stations) now i d after c.tell.ensures.others c.tell.ensures.come inside c.loop-wire.invariant.apart c.loop-wire.invariant.come;
    }

pub returns : goal.returns
returns c =
    let slot = c.args.slot in
    let cores = cores_of c.args.stations.now in
    let i = c.loop-wire.wire-index in
    record {
      advances =
          advances-all slot cores (levels_of c.loop-wire.stations) c.args.wires.now c.loop-wire.wires
          (through-all (GoesBy slot cores) i c.args.wires.now c.loop-wire.wires c.loop-wire.invariant.through (omega arith)) c.loop-wire.invariant.come;
      same = c.loop-wire.invariant.same;
    }
