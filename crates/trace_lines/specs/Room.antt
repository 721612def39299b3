-- How NodeEvents lie in memory.
use Rattle.std.specs.Prelude.{◌+◌, ◌<◌, ◌≤◌, length, vec_len, vec_capacity, All}
use Rattle.xs_model.specs.Events.{IsWithinCounts}
use Rattle.xs_model.specs.FirstEvents.{kept_at_most}
use Rattle.trace_lines.specs.Kept.{KeptEvents}
use Rattle.trace_lines.specs.declared.kept.NodeEvents.TheInside.{Inside}

abbrev pub kept_in : Inside → KeptEvents
kept_in a = record { events = a.events.items; more = a.more; spare = a.spare }

-- no more are kept than are to be, and there is as much room as is said, or as much as all that are kept need
pub record FitsItsRoom (a : Inside) : Type 0 where
  pub bound : length a.events.items ≤ kept_at_most
  pub room : vec_capacity a.events < kept_at_most → vec_len a.events + a.spare ≤ vec_capacity a.events
  pub within : All IsWithinCounts a.events.items
