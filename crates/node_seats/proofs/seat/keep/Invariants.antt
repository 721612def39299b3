use Rattle.std.proofs.Common.{◌+◌, ◌-◌, ◌≤◌, List, ◌++◌, length, take}
use Rattle.xs_model.specs.declared.event.Event.{Event}
use Rattle.trace_lines.specs.Kept.{Keeps, HasRoom}
use Rattle.node_seats.proofs.seat.keep.Given as goal

abbrev pub invariant-loop-e : goal.invariant-loop-e
invariant-loop-e l = record {
  keeps : (all : List Event) → Keeps l.initial.events all → Keeps l.events (all ++ take l.e-index l.given);
  room : HasRoom (length l.given - l.e-index) l.events;
  more : l.events.more ≤ l.initial.events.more + l.e-index;
}
