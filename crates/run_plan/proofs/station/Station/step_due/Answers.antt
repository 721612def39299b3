use Rattle.std.proofs.Common.{Bool, cond, sym, ap, subst, refl, ◌∙◌}
use Rattle.core_step.specs.PinLevels.{from_outside}
use Rattle.node_seats.specs.Seats.{StepsOn}
use Rattle.node_seats.proofs.Seats.{noted-still}
use Rattle.run_plan.specs.declared.inbound.TheConstants.{NOTHING}
use Rattle.run_plan.specs.Inbound.{arrivals_by}
use Rattle.run_plan.proofs.Stations.{station_steps}
use Rattle.run_plan.proofs.station.Station.step_due.Goals as goal

pub step-requires-clause-same : goal.step-requires-clause-same
step-requires-clause-same c = λ still.
    noted-still c.args.slot c.args.self.now.pins c.look-changed.new.self c.args.self.now.seat c.requires.station.noted (c.look-changed.ensures.same still) ∙ ap from_outside (sym c.view.ensures)

pub returns : goal.returns
returns c =
    let before = c.args.self.now in
    let taken = c.arrivals-arrivals.ensures ∙ ap (λ (due : Bool). cond due (arrivals_by c.args.tracks.now before.incoming.links) NOTHING) (sym c.requires.due) in
    let look = c.look-changed.ensures in
    let steps = subst (StepsOn c.args.slot c.arrivals-arrivals.result c.view.result.now before.seat) (sym c.find_rest.ensures.unchanged) c.step.ensures.steps in
    record { steps = station_steps c.args.slot c.args.tracks.now before _ _ c.view.result.now refl look.script look.number look.wired look.wires look.shown taken c.view.ensures look.view steps }
