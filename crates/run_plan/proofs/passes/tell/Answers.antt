use Rattle.std.proofs.Common.{◌+◌, ◌<◌, length, arith}
use Rattle.std.proofs.lemmas.List.{length-map}
use Rattle.run_plan.specs.declared.station.Station.{Station}
use Rattle.run_plan.proofs.Told.{none-told, tells-level}
use Rattle.run_plan.proofs.passes.tell.Goals as goal

pub bounds-stations-wire : goal.bounds-stations-wire
bounds-stations-wire c = omega (arith, c.requires.wire.from, length-map c.args.stations.now (λ (s : Station). s.pins.levels))

pub bounds-stations-wire-then-go_on : goal.bounds-stations-wire-then-go_on
bounds-stations-wire-then-go_on c = omega (arith, c.requires.wire.to, c.go_on.ensures.next.to, length-map c.args.stations.now (λ (s : Station). s.pins.levels))

pub returns-then-go_on-clause-come : goal.returns-then-go_on-clause-come
returns-then-go_on-clause-come c =
    let inside : c.go_on.new.self.to < length c.args.stations.now =
    omega (arith, c.requires.wire.to, c.go_on.ensures.next.to, length-map c.args.stations.now (λ (s : Station). s.pins.levels)) in
    (tells-level (c.args.slot + 1) c.args.stations.now c.args.wire.now c.go_on.new.self c.go_on.ensures.next.to c.go_on.ensures.next.to_port
    c.index-stations-wire-then-go_on.result c.come.new.self inside c.go_on.ensures.next.next.to_port c.come.ensures.script c.come.ensures.number c.come.ensures.wired
    c.come.ensures.levels c.come.ensures.ports c.come.ensures.shown c.come.ensures.due).come

pub returns-then-go_on-clause-others : goal.returns-then-go_on-clause-others
returns-then-go_on-clause-others c =
    let inside : c.go_on.new.self.to < length c.args.stations.now =
    omega (arith, c.requires.wire.to, c.go_on.ensures.next.to, length-map c.args.stations.now (λ (s : Station). s.pins.levels)) in
    (tells-level (c.args.slot + 1) c.args.stations.now c.args.wire.now c.go_on.new.self c.go_on.ensures.next.to c.go_on.ensures.next.to_port
    c.index-stations-wire-then-go_on.result c.come.new.self inside c.go_on.ensures.next.next.to_port c.come.ensures.script c.come.ensures.number c.come.ensures.wired
    c.come.ensures.levels c.come.ensures.ports c.come.ensures.shown c.come.ensures.due).others

pub returns-then-go_on-clause-same : goal.returns-then-go_on-clause-same
returns-then-go_on-clause-same c =
    let inside : c.go_on.new.self.to < length c.args.stations.now =
    omega (arith, c.requires.wire.to, c.go_on.ensures.next.to, length-map c.args.stations.now (λ (s : Station). s.pins.levels)) in
    (tells-level (c.args.slot + 1) c.args.stations.now c.args.wire.now c.go_on.new.self c.go_on.ensures.next.to c.go_on.ensures.next.to_port
    c.index-stations-wire-then-go_on.result c.come.new.self inside c.go_on.ensures.next.next.to_port c.come.ensures.script c.come.ensures.number c.come.ensures.wired
    c.come.ensures.levels c.come.ensures.ports c.come.ensures.shown c.come.ensures.due).same

pub returns-else-go_on-clause-same : goal.returns-else-go_on-clause-same
returns-else-go_on-clause-same c = none-told (c.args.slot + 1) c.args.stations.now
