use Rattle.std.proofs.Common.{◌≡◌, ◌-◌}
use Rattle.xs_model.specs.Record.{NodeRec}
use Rattle.net_model.specs.Switch.{free_end}
use Rattle.switch_routes.proofs.wants.free_end.Given as goal

-- no link end below this one is free
abbrev pub invariant-loop-end : goal.invariant-loop-end
invariant-loop-end l = (rec : NodeRec) → l.inputs ≡ rec.inputs → free_end rec l.mask 0 8 ≡ free_end rec l.mask l.end (8 - l.end)
