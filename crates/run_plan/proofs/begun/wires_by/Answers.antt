use Rattle.std.proofs.Common.{◌≡◌, ◌+◌, ◌*◌, ◌<◌, ◌≤◌, List, [], ◌∷◌, ◌++◌, length, take, get_or, sym, ap, ◌∙◌, subst, arith}
use Rattle.std.specs.Prelude.{drop}
use Rattle.std.proofs.lemmas.Grind.{common_steps}
use Rattle.std.proofs.lemmas.List.{length-map, length-take}
use Rattle.xs_base.specs.Ids.{port_width}
use Rattle.xs_base.specs.Numbers.{Word}
use Rattle.sys_plan.specs.declared.LinkPlan.{LinkPlan}
use Rattle.sys_plan.specs.declared.WirePlan.{WirePlan}
use Rattle.sys_plan.specs.Plan.{IsWire as IsWirePlan, link_arcs}
use Rattle.snap_parts.specs.Parts.{seen, body_of}
use Rattle.snap_parts.specs.Snaps.{IsOnWire}
use Rattle.run_plan.specs.Passes.{cores_of}
use Rattle.run_plan.specs.Begins.{AllBegin, WireBegins, WireBeginsBy}
use Rattle.run_plan.proofs.Through.{all-at}
use Rattle.run_plan.proofs.Begins.{begin-length, arcs-length, drop-at, wire-log-at, wire-within, wires-rest, wires-whole, seen-here, driven-here, wires-grow}
use Rattle.run_plan.proofs.Resumes.{wires-ready, targets-apart}
use Rattle.run_plan.proofs.begun.wires_by.Goals as goal

pub index-log-requires : goal.index-log-requires
index-log-requires c =
    let plan = c.args.plan.now in
    let snap = c.args.snap.now in
    let body = body_of snap in
    let stations = c.args.stations.now in
    let i = c.loop-wire.wire-index in
    let wires = c.loop-wire.wires.items in
    let inside : i < length plan.wires = omega (arith, ap (λ (xs : List WirePlan). length xs) c.wires-wire-items.ensures.value) in
    let begun = begin-length (WireBeginsBy snap.slot (cores_of stations)) 0 (take i plan.wires) (take i (drop (length (link_arcs plan.links)) body.logs)) wires c.loop-wire.invariant.begin in
    let count : c.len.result ≡ length wires = c.len.ensures ∙ c.loop-wire.wires.ok.0 in
    let place : 2 * length c.links.result.now + c.len.result ≡ length (link_arcs plan.links) + i =
    omega (arith, begun, length-take i plan.wires, inside, count, arcs-length plan.links, ap (λ (xs : List LinkPlan). length xs) c.links.ensures.value) in
    omega (arith, place, wire-within plan body c.requires.snap i inside, length-map snap.logs.items seen)

pub wire_by-requires-clause-log : goal.wire_by-requires-clause-log
wire_by-requires-clause-log c =
    let plan = c.args.plan.now in
    let snap = c.args.snap.now in
    let body = body_of snap in
    let stations = c.args.stations.now in
    let i = c.loop-wire.wire-index in
    let wires = c.loop-wire.wires.items in
    let inside : i < length plan.wires = omega (arith, ap (λ (xs : List WirePlan). length xs) c.wires-wire-items.ensures.value) in
    let begun = begin-length (WireBeginsBy snap.slot (cores_of stations)) 0 (take i plan.wires) (take i (drop (length (link_arcs plan.links)) body.logs)) wires c.loop-wire.invariant.begin in
    let count : c.len.result ≡ length wires = c.len.ensures ∙ c.loop-wire.wires.ok.0 in
    let place : 2 * length c.links.result.now + c.len.result ≡ length (link_arcs plan.links) + i =
    omega (arith, begun, length-take i plan.wires, inside, count, arcs-length plan.links, ap (λ (xs : List LinkPlan). length xs) c.links.ensures.value) in
    let lent = c.wires-wire-items.result.now in
    let d : WirePlan = record { a = 0; a_port = 0; b = 0; b_port = 0; delay = 0 } in
    let wire = get_or lent i d in
    let here : get_or plan.wires i d ≡ wire = ap (λ (xs : List WirePlan). get_or xs i d) (sym c.wires-wire-items.ensures.value) in
    let k = 2 * length c.links.result.now + c.len.result in
    let log = c.index-log.result.now in
    subst (IsOnWire snap.slot wire.delay (port_width wire.b_port)) (seen-here snap.logs.items k log c.index-log.ensures) (wire-log-at plan body c.requires.snap i k wire d (seen log) place inside here)

pub loop-wire-preserved : goal.loop-wire-preserved
loop-wire-preserved c =
    let plan = c.args.plan.now in
    let snap = c.args.snap.now in
    let body = body_of snap in
    let stations = c.args.stations.now in
    let i = c.loop-wire.wire-index in
    let wires = c.loop-wire.wires.items in
    let inside : i < length plan.wires = omega (arith, ap (λ (xs : List WirePlan). length xs) c.wires-wire-items.ensures.value) in
    let begun = begin-length (WireBeginsBy snap.slot (cores_of stations)) 0 (take i plan.wires) (take i (drop (length (link_arcs plan.links)) body.logs)) wires c.loop-wire.invariant.begin in
    let count : c.len.result ≡ length wires = c.len.ensures ∙ c.loop-wire.wires.ok.0 in
    let place : 2 * length c.links.result.now + c.len.result ≡ length (link_arcs plan.links) + i =
    omega (arith, begun, length-take i plan.wires, inside, count, arcs-length plan.links, ap (λ (xs : List LinkPlan). length xs) c.links.ensures.value) in
    let lent = c.wires-wire-items.result.now in
    let d : WirePlan = record { a = 0; a_port = 0; b = 0; b_port = 0; delay = 0 } in
    let wire = get_or lent i d in
    let here : get_or plan.wires i d ≡ wire = ap (λ (xs : List WirePlan). get_or xs i d) (sym c.wires-wire-items.ensures.value) in
    let k = 2 * length c.links.result.now + c.len.result in
    let log = c.index-log.result.now in
    let rest = drop (length (link_arcs plan.links)) body.logs in
    let begun = c.in_ok-begun.begun in
    let found = c.index-stations-wire.result in
    let pushed : c.push.new.self.items ≡ wires ++ begun ∷ [] = grind (arith, common_steps) in
    let is = all-at (IsWirePlan (length plan.nodes)) plan.wires i d c.wires-wire-items.ensures.plan.wires inside in
    let known : wire.a < length stations = omega (arith, ap (λ (w : WirePlan). w.a) here, is.a, c.requires.stations) in
    let driven = driven-here stations wire.a wire.a_port found found c.driven-driven.result known c.index-stations-wire.is c.driven-driven.ensures.value in
    let there : get_or rest i (seen log) ≡ seen log =
    sym (drop-at (length (link_arcs plan.links)) i body.logs (seen log)) ∙ ap (λ m. get_or body.logs m (seen log)) (sym place) ∙ seen-here snap.logs.items k log c.index-log.ensures in
    let within : i < length rest = omega (arith, inside, wires-rest plan body c.requires.snap) in
    record {
      begin =
          subst (AllBegin (WireBeginsBy snap.slot (cores_of stations)) 0 (take (i + 1) plan.wires) (take (i + 1) rest)) (sym pushed)
          (wires-grow snap.slot i (cores_of stations) plan.wires rest wires wire d (seen log) (seen log) begun c.loop-wire.invariant.begin inside within here there
          (subst (λ (level : Word). WireBegins snap.slot level wire (seen log) begun) driven c.in_ok-begun.ensures.begins));
    }

pub returns-clause-begin : goal.returns-clause-begin
returns-clause-begin c =
    let plan = c.args.plan.now in
    let snap = c.args.snap.now in
    let body = body_of snap in
    let stations = c.args.stations.now in
    let i = c.loop-wire.wire-index in
    let wires = c.loop-wire.wires.items in
    let all : length plan.wires ≤ i = omega (arith, ap (λ (xs : List WirePlan). length xs) c.wires-wire-items.ensures.value) in
    let rest = drop (length (link_arcs plan.links)) body.logs in
    let whole = wires-whole snap.slot i (cores_of stations) plan.wires rest wires all (wires-rest plan body c.requires.snap) c.loop-wire.invariant.begin in
    whole

pub returns-clause-ready : goal.returns-clause-ready
returns-clause-ready c =
    let plan = c.args.plan.now in
    let snap = c.args.snap.now in
    let body = body_of snap in
    let stations = c.args.stations.now in
    let i = c.loop-wire.wire-index in
    let wires = c.loop-wire.wires.items in
    let all : length plan.wires ≤ i = omega (arith, ap (λ (xs : List WirePlan). length xs) c.wires-wire-items.ensures.value) in
    let rest = drop (length (link_arcs plan.links)) body.logs in
    let whole = wires-whole snap.slot i (cores_of stations) plan.wires rest wires all (wires-rest plan body c.requires.snap) c.loop-wire.invariant.begin in
    wires-ready plan snap.slot (cores_of stations) rest wires c.wires-wire-items.ensures.plan whole

pub returns-clause-apart : goal.returns-clause-apart
returns-clause-apart c =
    let plan = c.args.plan.now in
    let snap = c.args.snap.now in
    let body = body_of snap in
    let stations = c.args.stations.now in
    let i = c.loop-wire.wire-index in
    let wires = c.loop-wire.wires.items in
    let all : length plan.wires ≤ i = omega (arith, ap (λ (xs : List WirePlan). length xs) c.wires-wire-items.ensures.value) in
    let rest = drop (length (link_arcs plan.links)) body.logs in
    let whole = wires-whole snap.slot i (cores_of stations) plan.wires rest wires all (wires-rest plan body c.requires.snap) c.loop-wire.invariant.begin in
    targets-apart plan snap.slot (cores_of stations) rest wires c.wires-wire-items.ensures.plan whole
