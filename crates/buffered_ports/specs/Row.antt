-- How the ports of a core lie beside their masks.
use Rattle.std.specs.Prelude.{◌≡◌, List, length, map, slice_index_or}
use Rattle.xs_base.specs.Numbers.{PortNumber}
use Rattle.xs_model.specs.Record.{PortRec, off_port}
use Rattle.buffered_ports.specs.declared.ports.Ports.TheInside as ports
use Rattle.single_port.specs.Keeps.{PortOf, IsPlaced}
use Rattle.buffered_ports.specs.Keeps.{AreMasks}

-- a place where no port is
abbrev pub no_place : PortOf
no_place = record { width = 1; port = off_port }

abbrev pub place_at : List PortOf → PortNumber → PortOf
place_at places p = slice_index_or places p no_place

abbrev pub ports_in : List PortOf → List PortRec
ports_in places = map (λ that. that.port) places

abbrev pub row : ports.Inside → List PortRec
row c = ports_in c.ports

-- there are as many as a core has, each that is on is as wide as its number says, and the masks are exact
pub record IsRow (c : ports.Inside) : Type 0 where
  pub count : length c.ports ≡ 29
  pub placed : (p : PortNumber) → IsPlaced p (place_at c.ports p)
  pub masks : AreMasks c.on c.ready c.strobed c.moving c.plain (row c)
