use Rattle.std.proofs.Common.{◌≡◌, List, [], ◌∷◌, length, map, refl, sym, ap, subst, ◌∙◌, arith}
use Rattle.std.specs.List.{AllZip}
use Rattle.std.proofs.lemmas.Iterator.Adapters.{YieldsList-from_vec}
use Rattle.std.proofs.lemmas.Iterator.Consumers.{YieldsList-end}
use Rattle.trace_lines.specs.Kept.{KeptEvents, Keeps}
use Rattle.run_plan.specs.declared.station.Station.{Station}
use Rattle.run_plan.specs.Machine.{MachineRec, system_of}
use Rattle.run_plan.specs.Inside.{seen_of}
use Rattle.run_plan.proofs.Systems.{play-keeps, play-length}
use Rattle.run_plan.proofs.machine.SerialMachine.into_events.Goals as goal

abbrev kept_of : List Station → List KeptEvents
kept_of stations = map (λ (s : Station). s.seat.events) stations

map-itself : {X : Type 0} (xs : List X) → map (λ x. x) xs ≡ xs
map-itself [] = refl
map-itself (x ∷ xs) = ap (λ ys. x ∷ ys) (map-itself xs)

kept-length : (stations : List Station) → length (kept_of stations) ≡ length stations
kept-length [] = refl
kept-length (s ∷ stations) = omega (arith, kept-length stations)

pub returns-clause-keeps : goal.returns-clause-keeps
returns-clause-keeps c =
    let stations = c.self.inside.stations in
    let plan = c.self.inside.plan.value in
    let now = c.self.inside.clock in
    let system = system_of (seen_of c.self.inside) in
    let gives = c.into_iter-station-iterator.ensures.into_iter_gives in
    let road = YieldsList-from_vec {s = c.into_iter-station-iterator.result} stations.items gives.0 (gives.1 ∙ stations.ok.0) in
    let end = YieldsList-end road c.loop-station.yielded c.loop-station.station-iterator c.loop-station.yielded_by c.next.result c.next.new.self c.in-None.is c.next.ensures.steps in
    let all : c.loop-station.all.items ≡ kept_of stations.items = c.loop-station.invariant ∙ ap kept_of (sym (map-itself c.loop-station.yielded) ∙ end.0) in
    subst (λ (m : MachineRec). AllZip Keeps c.loop-station.all.items (system_of m).events) c.self.view_is
    (subst (λ (kept : List KeptEvents). AllZip Keeps kept system.events) (sym all)
    (play-keeps plan now 0 plan.nodes stations.items system.nodes system.events c.self.invariant.ready.system.serve))

pub returns-clause-nodes : goal.returns-clause-nodes
returns-clause-nodes c =
    let stations = c.self.inside.stations in
    let plan = c.self.inside.plan.value in
    let now = c.self.inside.clock in
    let system = system_of (seen_of c.self.inside) in
    let gives = c.into_iter-station-iterator.ensures.into_iter_gives in
    let road = YieldsList-from_vec {s = c.into_iter-station-iterator.result} stations.items gives.0 (gives.1 ∙ stations.ok.0) in
    let end = YieldsList-end road c.loop-station.yielded c.loop-station.station-iterator c.loop-station.yielded_by c.next.result c.next.new.self c.in-None.is c.next.ensures.steps in
    ap length c.loop-station.invariant
    ∙ (kept-length c.loop-station.yielded
    ∙ (end.1
    ∙ (play-length plan now 0 plan.nodes stations.items system.nodes system.events c.self.invariant.ready.system.serve
    ∙ ap (λ (m : MachineRec). length m.plan.nodes) c.self.view_is)))
