-- Where forms stop, as it is kept.
use Rattle.explain_model.specs.Forms.{Stop, Spot}
use Rattle.marked_lines.specs.declared.spot.Stop as kept
use Rattle.marked_lines.specs.declared.spot.Spot as kept_spot

abbrev pub stop_of_kept : kept.Stop → Stop
stop_of_kept stop = record { at = stop.at; all_fit = stop.all_fit; want = stop.want }

abbrev pub spot_of_kept : kept_spot.Spot → Spot
spot_of_kept spot = record { at = spot.at; all_fit = spot.all_fit; wants = spot.wants.items }
