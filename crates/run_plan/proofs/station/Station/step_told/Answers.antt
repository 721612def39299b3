use Rattle.std.proofs.Common.{sym, ap, subst, refl, ◌∙◌}
use Rattle.xs_model.specs.declared.outside.Arrivals.{Arrivals}
use Rattle.xs_model.specs.declared.outside.PinView.{PinView}
use Rattle.core_step.specs.PinLevels.{from_outside}
use Rattle.node_seats.specs.Seats.{StepsOn}
use Rattle.node_seats.specs.Told.{IsToldOf}
use Rattle.node_seats.proofs.Seats.{noted-still}
use Rattle.run_plan.specs.Stations.{taken_by}
use Rattle.run_plan.proofs.Stations.{station_steps}
use Rattle.run_plan.proofs.station.Station.step_told.Goals as goal

pub step_told-told-requires-clause-same : goal.step_told-told-requires-clause-same
step_told-told-requires-clause-same c = λ still.
    noted-still c.args.slot c.args.self.now.pins c.look-changed.new.self c.args.self.now.seat c.requires.station.noted (c.look-changed.ensures.same still) ∙ ap from_outside (sym c.view.ensures)

pub returns : goal.returns
returns c =
    let before = c.args.self.now in
    let slot = c.args.slot in
    let taken = c.taken-arrivals.ensures.value in
    let look = c.look-changed.ensures in
    let steps = subst (StepsOn slot c.taken-arrivals.result c.view.result.now before.seat) (sym c.find_rest.ensures.unchanged) c.step_told-told.ensures.steps in
    record {
      steps = station_steps slot c.args.tracks.now before _ _ c.view.result.now refl look.script look.number look.wired look.wires look.shown taken c.view.ensures look.view steps;
      told =
          subst (λ (v : PinView). IsToldOf slot (taken_by c.args.tracks.now before) v before.seat c.step_told-told.result) (c.view.ensures ∙ look.view)
          (subst (λ (a : Arrivals). IsToldOf slot a c.view.result.now before.seat c.step_told-told.result) taken c.step_told-told.ensures.told);
    }
