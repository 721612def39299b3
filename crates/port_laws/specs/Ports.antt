-- What keeps what is always true of a port.
use Rattle.std.specs.Prelude.{ℕ, ◌<◌, ◌≤◌, ◌+◌, ◌^◌, Bool, Option, None, List, [], ◌∷◌}
use Rattle.xs_base.specs.Numbers.{Slot, Word, PortNumber}
use Rattle.xs_base.specs.Ids.{port_width}
use Rattle.xs_model.specs.declared.clock.Clock.{Clock}
use Rattle.xs_model.specs.declared.clock.Edge.{Edge}
use Rattle.xs_model.specs.Record.{PortRec, ClockRec, off_port}
use Rattle.xs_model.specs.Ports.{port_edge, edges_from}
use Rattle.xs_model.specs.PortActions.{Acted, Did, Got, Waits, Refused, on_port, in_mode, set_clock, set_strobe, set_transfer_width, set_value, set_time, clear_time, tell_value, tell_stamp, peek, take_in, take_part, end_in, put_out, put_part, sync, restarted}
use Rattle.xs_model.specs.Outside.{LevelsFitFrom}
use Rattle.port_laws.specs.Facts.{HasFacts}

-- a port may have so many pins
abbrev pub IsWidth : ℕ → Type 0
IsWidth width = (1 ≤ width) × (width ≤ 32)

-- a port that is off has them, and one that was just turned on
abbrev pub FirstHaveFacts : Type 0
FirstHaveFacts = (width : ℕ) → IsWidth width → HasFacts width off_port × HasFacts width (on_port width)

-- each edge of a port's clock leaves them, be there a strobe or not
abbrev pub EdgesKeep : Type 0
EdgesKeep = (width : ℕ) (edge : Edge) (level : Word) → IsWidth width → level < 2 ^ width → (high : Bool) (port : PortRec) →
    HasFacts width port → HasFacts width (port_edge width edge level high port).port

-- the port that a row leaves has them, where the row is not refused
abbrev pub LeavesFacts : ℕ → Acted → Type 0
LeavesFacts width (Did port change) = HasFacts width port
LeavesFacts width (Got port word) = HasFacts width port
LeavesFacts width (Waits port wait change) = HasFacts width port
LeavesFacts width Refused = Unit {0}

-- each row at port p leaves them; a part of a transfer has at least one bit
pub record EachKeeps (p : PortNumber) (port : PortRec) : Type 0 where
  pub mode : (mode : Word) → LeavesFacts (port_width p) (in_mode (port_width p) mode port)
  pub clock : (clock : Clock) → LeavesFacts (port_width p) (set_clock clock port)
  pub strobe : (strobe : Option PortNumber) → LeavesFacts (port_width p) (set_strobe strobe port)
  pub transfer_width : (x : Word) → LeavesFacts (port_width p) (set_transfer_width (port_width p) x port)
  pub value : (x : Word) → LeavesFacts (port_width p) (set_value (port_width p) x port)
  pub time : (x : Word) → LeavesFacts (port_width p) (set_time x port)
  pub no_time : LeavesFacts (port_width p) (clear_time port)
  pub told_value : LeavesFacts (port_width p) (tell_value port)
  pub told_stamp : LeavesFacts (port_width p) (tell_stamp port)
  pub peeked : (outside : Word) → LeavesFacts (port_width p) (peek outside port)
  pub taken : LeavesFacts (port_width p) (take_in p None port)
  pub part_taken : (bits : ℕ) → 1 ≤ bits → LeavesFacts (port_width p) (take_part p bits port)
  pub ended : LeavesFacts (port_width p) (end_in port)
  pub put : (word : Word) → LeavesFacts (port_width p) (put_out p word port)
  pub part_put : (bits : ℕ) (word : Word) → 1 ≤ bits → LeavesFacts (port_width p) (put_part p bits word port)
  pub synced : LeavesFacts (port_width p) (sync p port)
  pub clock_started : (n : ℕ) → HasFacts (port_width p) (restarted n port)

abbrev pub RowsKeep : Type 0
RowsKeep = (p : PortNumber) (port : PortRec) → HasFacts (port_width p) port → EachKeeps p port

-- all of some ports have them, the first of them port p
abbrev pub AllHaveFacts : PortNumber → List PortRec → Type 0
AllHaveFacts p [] = Unit {0}
AllHaveFacts p (port ∷ ports) = HasFacts (port_width p) port × AllHaveFacts (p + 1) ports

-- the edges of a slot leave all ports with them, where what is outside fits their pins
abbrev pub SlotKeeps : Type 0
SlotKeeps = (slot : Slot) (clocks : List ClockRec) (before : List Word) (p : PortNumber) (ports : List PortRec) (outside : List Word) →
    LevelsFitFrom p outside → AllHaveFacts p ports → AllHaveFacts p (edges_from slot clocks before p ports outside).ports
