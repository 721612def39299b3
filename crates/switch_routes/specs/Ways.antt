-- Where a destination lies, in code and in the definitions.
use Rattle.std.specs.Prelude.{ℕ, List}
use Rattle.net_model.specs.Ways.{Way, Here, Behind}
use Rattle.net_model.specs.Switch.{Routes}
use Rattle.switch_routes.specs.declared.ways.Way.{Way as WayFound}
use Rattle.switch_routes.specs.declared.ways.Way.TheVariants as way
use Rattle.switch_routes.specs.declared.ways.Ways.{Ways}

-- the way that a value in code stands for
abbrev pub way_of : WayFound → Way
way_of way.Here = Here
way_of (way.Behind ends) = Behind ends

-- what the definitions know of the node
abbrev pub routes_with : Ways → List ℕ → Routes
routes_with ways gaps = record { id = ways.id; ways = ways.ends; nets = ways.nets; gaps = gaps }
