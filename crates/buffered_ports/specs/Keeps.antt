-- What masks tell of ports, and what a clock that starts leaves of them.
use Rattle.std.specs.Prelude.{ℕ, ◌≡◌, ◌≢◌, ◌+◌, ◌<◌, ◌≤◌, ◌==◌, Bool, true, false, not, length, Option, Some, is_some, List, map, slice_index_or}
use Rattle.xs_base.specs.Numbers.{Word, PortNumber}
use Rattle.xs_base.specs.declared.numbers.TheConstants.{PORTS}
use Rattle.xs_model.specs.declared.clock.Clock.{Clock}
use Rattle.xs_model.specs.declared.clock.Clock.TheVariants.{Reference, Block}
use Rattle.xs_model.specs.Record.{PortRec}
use Rattle.xs_model.specs.Masks.{in_mask}
use Rattle.xs_model.specs.Choices.{port_is_ready}
use Rattle.xs_model.specs.PortActions.{restarted}
use Rattle.xs_model.specs.Outside.{Emitted}
use Rattle.quiet_model.specs.Still.{port_is_still}
use Rattle.buffered_ports.specs.Asks.{port_at}
use Rattle.single_port.specs.Keeps.{IsPlain}
pub use Rattle.single_port.specs.Keeps.{ServesAs}

-- a mask has the ports that are not still
abbrev pub AreMoving : ℕ → List PortRec → Type 0
AreMoving mask ports = (p : PortNumber) → p < 32 → in_mask mask p ≡ not (port_is_still (port_at ports p))

-- masks have the ports that are on, those that are ready, those that have a strobe, and those that are not still, and one has
-- none but plain ones
pub record AreMasks (on_mask ready_mask strobed_mask moving_mask plain_mask : ℕ) (ports : List PortRec) : Type 0 where
  pub on : (p : PortNumber) → p < 32 → in_mask on_mask p ≡ (port_at ports p).on
  pub ready : (p : PortNumber) → p < 32 → in_mask ready_mask p ≡ port_is_ready (port_at ports p)
  pub strobed : (p : PortNumber) → p < 32 → in_mask strobed_mask p ≡ is_some (port_at ports p).strobe
  pub moving : AreMoving moving_mask ports
  pub plain : (p : PortNumber) → p < 32 → in_mask plain_mask p ≡ true → IsPlain (port_at ports p)

-- a mask tells whether a port's strobe is high, if it has one, where these are the levels of all pins
abbrev pub HighIs : ℕ → Option PortNumber → List Word → Type 0
HighIs high strobe levels = (q : PortNumber) → strobe ≡ Some q → in_mask high q ≡ (slice_index_or levels q 0 == 1)

-- it tells it of all strobes; of other ports it says nothing
abbrev pub HighAre : ℕ → List PortRec → List Word → Type 0
HighAre high ports levels = (p : PortNumber) → HighIs high (port_at ports p).strobe levels

-- the edge of port p leaves all others as they are, and where the answer is that nothing differs, it serves threads as before
pub record IsEdged (p : PortNumber) (differs : Bool) (old new : List PortRec) : Type 0 where
  pub others : (k : PortNumber) → k ≢ p → port_at new k ≡ port_at old k
  pub count : length old ≡ PORTS → length new ≡ PORTS
  pub same : differs ≡ false → ServesAs (port_at old p) (port_at new p)

-- what the edge of one port tells stands after what was told, and of the rest nothing changes
pub record TellsOne (old new : Emitted) : Type 0 where
  pub rest : new ≡ record old { events = new.events }
  pub room : length new.events ≤ length old.events + 1

-- all ports after a clock started
abbrev pub ports_restarted : Clock → List PortRec → List PortRec
ports_restarted Reference ports = ports
ports_restarted (Block n) ports = map (restarted n) ports
