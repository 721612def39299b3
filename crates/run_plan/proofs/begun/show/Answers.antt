use Rattle.std.proofs.Common.{◌<◌, length, refl, arith}
use Rattle.std.proofs.lemmas.List.{length-map}
use Rattle.run_plan.specs.declared.station.Station.{Station}
use Rattle.run_plan.proofs.Told.{tells-level}
use Rattle.run_plan.proofs.begun.show.Goals as goal

pub bounds-stations-wire : goal.bounds-stations-wire
bounds-stations-wire c = omega (arith, c.requires.wire.to, length-map c.args.stations.now (λ (s : Station). s.pins.levels))

pub returns : goal.returns
returns c =
    let wire = c.args.wire.now in
    let inside : wire.to < length c.args.stations.now = omega (arith, c.requires.wire.to, length-map c.args.stations.now (λ (s : Station). s.pins.levels)) in
    let told =
    tells-level c.args.slot c.args.stations.now wire wire refl refl
    c.index-stations-wire.result c.come.new.self inside c.requires.wire.here.to_port c.come.ensures.script c.come.ensures.number c.come.ensures.wired
    c.come.ensures.levels c.come.ensures.ports c.come.ensures.shown c.come.ensures.due in
    record { come = told.come; others = told.others; same = told.same }
