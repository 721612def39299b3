-- How Emissions lie in their places.
use Rattle.std.specs.Prelude.{◌≡◌, false, None, replicate, All}
use Rattle.xs_model.specs.Outside.{Emitted}
use Rattle.xs_model.specs.Events.{IsWithinCounts}
use Rattle.trace_lines.specs.declared.emitted.Emissions.TheInside.{Inside}

abbrev pub emitted_of : Inside → Emitted
emitted_of c = record { events = c.events.items; tokens = c.tokens; credits = c.credits }

-- every event is within its counts, and link ends are marked as used where one is
pub record IsWellMarked (c : Inside) : Type 0 where
  pub within : All IsWithinCounts c.events.items
  pub no_token : c.links_used ≡ false → c.tokens ≡ replicate 8 None
  pub no_credit : c.links_used ≡ false → c.credits ≡ replicate 8 false
