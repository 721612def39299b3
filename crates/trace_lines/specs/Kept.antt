-- What is kept of a node's events: the first 262,144, and the count of the rest.
use Rattle.std.specs.Prelude.{ℕ, ◌≡◌, ◌<◌, ◌≤◌, List, length}
use Rattle.xs_model.specs.declared.event.Event.{Event}
use Rattle.xs_model.specs.FirstEvents.{kept_at_most, first_events, left_out}

-- what NodeEvents keeps: events in their order, how many more there were, and for how many more there is room
pub record KeptEvents : Type 0 where
  pub events : List Event
  pub more : ℕ
  pub spare : ℕ

-- these are all the events of a node, kept so far as they are kept
pub record Keeps (kept : KeptEvents) (all : List Event) : Type 0 where
  pub first : kept.events ≡ first_events all
  pub rest : kept.more ≡ left_out all

-- there is room for n events, unless as many are kept as are to be
abbrev pub HasRoom : ℕ → KeptEvents → Type 0
HasRoom n kept = length kept.events < kept_at_most → n ≤ kept.spare
