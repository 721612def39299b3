-- What a core's fields stand for.
use Rattle.std.specs.Prelude.{◌≡◌}
use Rattle.core_step.specs.Core.{CoreValue}
use Rattle.core_step.specs.Network.{routes_of}
use Rattle.core_step.specs.Quiet.{IsRest}
use Rattle.core_step.specs.declared.node_core.Core.TheInside.{Inside}

abbrev pub value_of : Inside → CoreValue
value_of c = record {
  fixed = record { edition = c.program.edition; code = c.program.code; routes = routes_of c.network };
  core = c.units;
  levels = c.levels;
  inputs = c.network.switch.inputs;
  links = c.network.links;
}

-- the switch is that of the program's node, and what is known of quiet slots is so
pub record IsCore (c : Inside) : Type 0 where
  pub node : c.network.switch.id ≡ c.program.id
  pub rest : IsRest (value_of c) c.rest
