use Rattle.std.proofs.Common.{◌≡◌, drop}
use Rattle.std.specs.List.{list_any}
use Rattle.net_model.specs.Switch.{is_out_by}
use Rattle.switch_routes.specs.Inputs.{states_in}
use Rattle.switch_routes.proofs.inputs.Inputs.end_is_held.Given as goal

-- none of the inputs before this one does
abbrev pub invariant-loop-state : goal.invariant-loop-state
invariant-loop-state l = list_any (is_out_by l.end) l.self ≡ list_any (is_out_by l.end) (states_in (drop l.state-index l.state-items))
