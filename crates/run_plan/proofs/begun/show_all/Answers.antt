use Rattle.std.proofs.Common.{◌≡◌, ◌≢◌, length, take, sym, ◌∙◌, subst, arith}
use Rattle.std.specs.List.{AllByRecursion}
use Rattle.std.proofs.lemmas.List.{length-map}
use Rattle.run_plan.specs.declared.wire.Wire.{Wire}
use Rattle.run_plan.specs.declared.station.Station.{Station}
use Rattle.run_plan.specs.Wires.{IsReadyWire, HasCome, target, targets}
use Rattle.run_plan.specs.Passes.{SameButCome, levels_of}
use Rattle.run_plan.proofs.Through.{all-at, zip-length, first-item, first-all}
use Rattle.run_plan.proofs.Told.{none-told, told-twice, told-shown, rest-told}
use Rattle.run_plan.proofs.Resumes.{earlier-apart}
use Rattle.run_plan.proofs.begun.show_all.Goals as goal

pub loop-wire-init : goal.loop-wire-init
loop-wire-init c = record { come = tt; same = none-told c.args.slot c.args.stations.now }

pub show-requires-clause-wire : goal.show-requires-clause-wire
show-requires-clause-wire c =
    let slot = c.args.slot in
    let nodes = c.args.stations.now in
    let stations = c.loop-wire.stations in
    let wires = c.args.wires.now in
    let i = c.loop-wire.wire-index in
    let count : length (levels_of stations) ≡ length (levels_of nodes) =
    length-map stations (λ (s : Station). s.pins.levels) ∙ zip-length (SameButCome slot) nodes stations c.loop-wire.invariant.same ∙ sym (length-map nodes (λ (s : Station). s.pins.levels)) in
    subst (λ n. IsReadyWire slot n c.wire-item.result) (sym count)
    (subst (IsReadyWire slot (length (levels_of nodes))) (sym c.wire-item.is) (all-at (IsReadyWire slot (length (levels_of nodes))) wires i c.wire-item.result c.requires.wires (omega arith)))

pub show-requires-clause-shown : goal.show-requires-clause-shown
show-requires-clause-shown c = told-shown c.args.slot c.args.stations.now c.loop-wire.stations c.loop-wire.invariant.same c.requires.shown

pub loop-wire-preserved : goal.loop-wire-preserved
loop-wire-preserved c =
    let wires = c.args.wires.now in
    let i = c.loop-wire.wire-index in
    let w = c.wire-item.result in
    let before = levels_of c.loop-wire.stations in
    let after = levels_of c.show.new.stations in
    let apart = subst (λ (t : Wire). AllByRecursion (λ y. target t ≢ y) (targets (take i wires))) (sym c.wire-item.is) (earlier-apart wires i w c.requires.apart (omega arith)) in
    record {
      come = first-item (HasCome after) i wires w (rest-told before after (target w) c.show.ensures.others (take i wires) apart c.loop-wire.invariant.come) (omega arith) c.wire-item.is c.show.ensures.come;
      same = told-twice c.args.slot c.args.stations.now c.loop-wire.stations c.show.new.stations c.loop-wire.invariant.same c.show.ensures.same;
    }

pub returns : goal.returns
returns c = record {
  come = first-all (HasCome (levels_of c.loop-wire.stations)) c.loop-wire.wire-index c.args.wires.now c.loop-wire.invariant.come (omega arith);
  same = c.loop-wire.invariant.same;
}
