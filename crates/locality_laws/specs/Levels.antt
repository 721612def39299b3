-- What arcs carry: directed links tokens and credits, and wires levels, which fit the pins that they join.
use Rattle.std.specs.Prelude.{◌≡◌, ◌<◌, ◌^◌, Some, slice_get}
use Rattle.std.specs.List.{AllByRecursion}
use Rattle.xs_base.specs.Numbers.{Slot, Position, LinkNumber, EndNumber, PortNumber}
use Rattle.xs_base.specs.Ids.{port_width}
use Rattle.xs_base.specs.declared.numbers.TheConstants.{LINK_ENDS}
use Rattle.xs_base.specs.declared.entry.Entry.{Entry}
use Rattle.xs_base.specs.declared.entry.What.{What}
use Rattle.xs_base.specs.declared.entry.What.TheVariants as what
use Rattle.xs_model.specs.Outside.{LevelsFit}
use Rattle.sys_plan.specs.Plan.{PlanRec, Arc, Joined, IsPlan, arcs, incoming}
use Rattle.serial_model.specs.Serial.{IsNoLevel, history, driven_level, serial}
use Rattle.locality_laws.specs.Locality.{node_in, shown_in_serial}

-- a level that fits the pins of a port
abbrev pub IsLevelOf : PortNumber → What → Type 0
IsLevelOf port (what.Level level) = level < 2 ^ port_width port
IsLevelOf port _ = ⊥

-- by its link ends no level comes to a node
abbrev pub LinksCarryNoLevel : Type 0
LinksCarryNoLevel = (plan : PlanRec) (n : Position) (end : EndNumber) (link : LinkNumber) (from to : Slot) →
    end < LINK_ENDS → incoming plan n end ≡ Some link → AllByRecursion (λ (e : Entry). IsNoLevel e.what) (history plan link from to)

-- what a port of a node drives in the serial machine fits its pins
abbrev pub DrivenLevelsFit : Type 0
DrivenLevelsFit = (plan : PlanRec) (slot : Slot) (n : Position) (port : PortNumber) → driven_level (node_in (serial plan slot) n) port < 2 ^ port_width port

-- a wire carries levels alone, which fit the pins that it joins; these are equally many
abbrev pub WiresCarryLevels : Type 0
WiresCarryLevels = (plan : PlanRec) (wire : LinkNumber) (arc : Arc) (joined : Joined) (from to : Slot) →
    IsPlan plan → slice_get (arcs plan) wire ≡ Some arc → arc.joins ≡ Some joined →
    AllByRecursion (λ (e : Entry). IsLevelOf joined.to_port e.what) (history plan wire from to)

-- so what the pins of a node show from outside fits them
abbrev pub ShownLevelsFit : Type 0
ShownLevelsFit = (plan : PlanRec) (n : Position) (slot : Slot) → IsPlan plan → LevelsFit (shown_in_serial plan n slot).level
