-- Inputs that do nothing in a slot.
use Rattle.std.specs.Prelude.{ℕ, ◌≡◌, ◌<◌, Bool, false, Option, List, [], slice_index_or}
use Rattle.xs_base.specs.Numbers.{InputNumber}
use Rattle.xs_base.specs.declared.numbers.TheConstants.{LINK_ENDS}
use Rattle.xs_model.specs.Masks.{in_mask}
use Rattle.xs_model.specs.Record.{ChanRec, InputRec, Idle}
use Rattle.xs_model.specs.Choices.{waits_in}
use Rattle.quiet_model.specs.Still.{acts_alone}
use Rattle.link_ends.specs.Counts.{EndCounts}
use Rattle.switch_routes.specs.Rows.{buffer_of, counts_at, waiting_in}

-- no token waits at the input, and it does not act alone
pub record IsStill (states : List InputRec) (ends : List ChanRec) (row : List (Option EndCounts)) (i : InputNumber) : Type 0 where
  pub alone : acts_alone (slice_index_or states i Idle) ≡ false
  pub waiting : waiting_in ends row i ≡ []

-- no token waits at the link ends that are not in the mask
abbrev pub AreMarked : ℕ → List (Option EndCounts) → Type 0
AreMarked mask row = (e : ℕ) → e < LINK_ENDS → in_mask mask e ≡ false → buffer_of (counts_at row e) ≡ []

-- whether a token waits at a link end, if it is there
abbrev pub has_waiting : Option EndCounts → Bool
has_waiting end = waits_in (buffer_of end)
