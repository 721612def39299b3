-- Link ends in a snapshot.
use Rattle.std.specs.Prelude.{ℕ, ◌≡◌, ◌≤◌, ◌+◌, true, false, Option, Some, None, List, [], ◌∷◌, replicate}
use Rattle.xs_base.specs.Numbers.{Slot}
use Rattle.xs_base.specs.declared.numbers.TheConstants.{WINDOW_TOKENS}
use Rattle.xs_model.specs.Record.{LinkRec}
use Rattle.link_ends.specs.Counts.{EndCounts}
use Rattle.link_ends.specs.declared.state.EndState.{EndState}

-- what a snapshot keeps of a link end that is there: all but its gap, which is the plan's
abbrev pub end_state : EndCounts → EndState
end_state counts = record {
  present = true;
  buffer = record { items = counts.buffer };
  window = counts.outstanding;
  last = counts.last_sent;
}

-- what a snapshot keeps of a link end that is not there
abbrev pub absent_end : EndState
absent_end = record { present = false; buffer = record { items = [] }; window = 0; last = None }

-- what a link end with this gap keeps by a state
abbrev pub counts_of : ℕ → EndState → EndCounts
counts_of gap state = record { gap = gap; buffer = state.buffer.items; outstanding = state.window; last_sent = state.last }

-- slots of sending with this last one, and slots of credits, that leave so many tokens without a credit: where one was sent, all
-- but one of those in its slot
abbrev pub sent_of : ℕ → Option Slot → List Slot
sent_of window None = []
sent_of window (Some last) = replicate (window + 1) last

abbrev pub credited_of : Option Slot → List Slot
credited_of None = []
credited_of (Some last) = last ∷ []

-- The link record that a state says. Which slots the earlier tokens were sent in is not known: a step of the node depends on how many
-- are without a credit, and on the last.
abbrev pub end_of : EndState → LinkRec
end_of state = record { buffer = state.buffer.items; sent = sent_of state.window state.last; credited = credited_of state.last }

-- a state says what may be so of a link end that is there, or that it is not there
pub record IsEndState (state : EndState) : Type 0 where
  pub window : state.window ≤ WINDOW_TOKENS
  pub never : state.last ≡ None → state.window ≡ 0
  pub absent : state.present ≡ false → state ≡ absent_end
