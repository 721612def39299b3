-- What a slot makes of a station.
use Rattle.std.proofs.Common.{◌≡◌, ℕ, ◌+◌, List, ap, ◌∙◌, subst}
use Rattle.xs_model.specs.declared.outside.Arrivals.{Arrivals}
use Rattle.xs_model.specs.declared.outside.PinView.{PinView}
use Rattle.core_step.specs.PinLevels.{from_outside}
use Rattle.node_seats.specs.Seats.{StepsOn}
use Rattle.node_seats.specs.Shown.{IsShown, shown_by}
use Rattle.run_plan.specs.declared.track.Track.{Track}
use Rattle.run_plan.specs.declared.station.Station.{Station}
use Rattle.run_plan.specs.Inbound.{InboundRec}
use Rattle.run_plan.specs.Stations.{StationSteps, taken_by}

-- its node goes on with what was taken, and what its pins showed when they were looked at
pub station_steps : (slot : ℕ) (tracks : List Track) (before after : Station) (arrivals : Arrivals) (view : PinView)
    → after.incoming ≡ before.incoming → after.pins.script ≡ before.pins.script → after.pins.number ≡ before.pins.number → after.pins.wired ≡ before.pins.wired → after.pins.levels ≡ before.pins.levels → IsShown (slot + 1) after.pins
    → arrivals ≡ taken_by tracks before → view ≡ after.pins.view → after.pins.view ≡ shown_by before.pins slot → StepsOn slot arrivals view before.seat after.seat
    → StationSteps slot tracks before after
station_steps slot tracks before after arrivals view incoming script number wired levels shown taken looked shows steps = record {
  incoming = ap (λ (i : InboundRec). i.links) incoming;
  script = script;
  number = number;
  wired = wired;
  levels = levels;
  shown = shown;
  noted = λ _. steps.noted ∙ ap from_outside looked;
  steps =
      subst (λ (v : PinView). StepsOn slot (taken_by tracks before) v before.seat after.seat) (looked ∙ shows)
      (subst (λ (a : Arrivals). StepsOn slot a view before.seat after.seat) taken steps);
}
