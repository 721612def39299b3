use Rattle.std.proofs.Common.{◌≡◌, ◌-◌, List, length, refl, sym, ap, ◌∙◌, rules, subst, arith}
use Rattle.std.specs.Prelude.{drop}
use Rattle.std.specs.List.{AllByRecursion, AllZip}
use Rattle.std.proofs.lemmas.List.{length-map, with_items_is, places}
use Rattle.sys_plan.specs.Plan.{PlanRec, link_arcs}
use Rattle.serial_model.specs.Serial.{SystemRec, since}
use Rattle.snap_parts.specs.declared.system.SnapSystem.{SnapSystem}
use Rattle.snap_parts.specs.Parts.{body_of}
use Rattle.snap_parts.specs.Snaps.{begun_of}
use Rattle.run_plan.specs.declared.station.Station.{Station}
use Rattle.run_plan.specs.Wires.{IsReadyWire, HasCome}
use Rattle.run_plan.specs.Passes.{IsShownAt, SameButCome, cores_of, levels_of}
use Rattle.run_plan.specs.Run.{AreReady}
use Rattle.run_plan.specs.Begins.{AllBegin, StationBegins, WireBeginsBy}
use Rattle.run_plan.proofs.Steps.{since_none}
use Rattle.run_plan.proofs.Systems.{ready-alike}
use Rattle.run_plan.proofs.Begins.{begin-length}
use Rattle.run_plan.proofs.Resumes.{shown-begin, ready-begun}
use Rattle.run_plan.proofs.machine.SerialMachine.resumed.Goals as goal

pub wires_by-requires-clause-stations : goal.wires_by-requires-clause-stations
wires_by-requires-clause-stations c =
    let plan = c.args.plan.now in
    let snap = c.args.snap.now in
    let stations = c.in_ok-stations.stations.items in
    ap (λ (xs : List Station). length xs) c.deref.ensures.value ∙ begin-length (StationBegins plan snap.slot) 0 plan.nodes snap.nodes.items stations c.in_ok-stations.ensures.begin

pub show_all-requires-clause-wires : goal.show_all-requires-clause-wires
show_all-requires-clause-wires c =
    let plan = c.args.plan.now in
    let snap = c.args.snap.now in
    let stations = c.in_ok-stations.stations.items in
    let lent = c.deref_mut.result.now in
    let count : length (levels_of lent) ≡ length plan.nodes =
    length-map lent (λ (s : Station). s.pins.levels) ∙ ap (λ (xs : List Station). length xs) c.deref_mut.ensures.value
    ∙ begin-length (StationBegins plan snap.slot) 0 plan.nodes snap.nodes.items stations c.in_ok-stations.ensures.begin in
    subst (λ n. AllByRecursion (IsReadyWire snap.slot n) c.deref-2.result.now) (sym count)
    (subst (AllByRecursion (IsReadyWire snap.slot (length plan.nodes))) (sym c.deref-2.ensures.value) c.in_ok-wires.ensures.ready)

pub show_all-requires-clause-shown : goal.show_all-requires-clause-shown
show_all-requires-clause-shown c =
    let plan = c.args.plan.now in
    let snap = c.args.snap.now in
    let stations = c.in_ok-stations.stations.items in
    subst (AllByRecursion (IsShownAt snap.slot)) (sym c.deref_mut.ensures.value) (shown-begin plan snap.slot 0 plan.nodes snap.nodes.items stations c.in_ok-stations.ensures.begin)

pub invariant_of-result : goal.invariant_of-result
invariant_of-result c =
    let plan = c.args.plan.now in
    let snap = c.args.snap.now in
    let stations = c.in_ok-stations.stations.items in
    let body = body_of snap in
    let tracks = c.in_ok-tracks.tracks.items in
    let wires = c.in_ok-wires.wires.items in
    let told = c.show_all.new.stations in
    let kept = c.of-2.result.value in
    let ways =
    subst (λ (xs : List Station). AllBegin (WireBeginsBy snap.slot (cores_of xs)) 0 plan.wires (drop (length (link_arcs plan.links)) body.logs) wires) c.deref.ensures.value c.in_ok-wires.ensures.begin in
    let come = subst (AllByRecursion (HasCome (levels_of told))) c.deref-2.ensures.value c.show_all.ensures.come in
    let same = subst (λ (xs : List Station). AllZip (SameButCome snap.slot) xs told) c.deref_mut.ensures.value c.show_all.ensures.same in
    let here =
    ready-begun plan body stations told tracks wires c.in_ok-stations.ensures.begin c.in_ok-tracks.ensures.begin ways c.in_ok-tracks.ensures.ready c.in_ok-wires.ensures.ready c.in_ok-wires.ensures.apart
    come same in
    let since_here =
    subst (λ (whole : SystemRec). AreReady plan (begun_of body).shown snap.slot whole told tracks wires) (since_none plan (begun_of body) (snap.slot - snap.slot) (omega arith)) here in
    let by_kept =
    subst (λ (s : SnapSystem). AreReady plan (begun_of (body_of s)).shown snap.slot (since plan (begun_of (body_of s)) (snap.slot - s.slot)) told tracks wires) (sym c.of-2.ensures) since_here in
    let ready =
    subst (λ (p : PlanRec). AreReady p (begun_of (body_of kept)).shown snap.slot (since p (begun_of (body_of kept)) (snap.slot - kept.slot)) told tracks wires) (sym c.of.ensures) by_kept in
    record {
      on = omega (arith, ap (λ (s : SnapSystem). s.slot) c.of-2.ensures);
      ready =
          ready-alike c.of.result.value (begun_of (body_of kept)).shown snap.slot (since c.of.result.value (begun_of (body_of kept)) (snap.slot - kept.slot))
          (with_items_is c.in_ok-stations.stations told (search (rules, places))) refl refl ready;
    }
