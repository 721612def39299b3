-- What a snapshot says of directed links and wires.
use Rattle.std.specs.Prelude.{ℕ, ◌≡◌, ◌+◌, ◌≤◌, ◌<◌, ◌^◌, IfSome, Option, List, length}
use Rattle.xs_base.specs.Numbers.{Slot}
use Rattle.xs_base.specs.declared.numbers.TheConstants.{WINDOW_TOKENS}
use Rattle.xs_base.specs.declared.entry.Entry.{Entry}
use Rattle.snap_parts.specs.InFlight.{AreLinkEntries, AreWireEntries}
use Rattle.snap_parts.specs.Parts.{LogRec}
use Rattle.log_forms.specs.Entries.{counts_of}
use Rattle.log_forms.specs.Windows.{EndsRec}

-- ---- Windows

-- The window of each end of a link is at most 8. It is the tokens in flight, those in the buffer of the other end, and the credits in flight
-- back.
pub record FitWindows (ends : EndsRec) (back : List Entry) : Type 0 where
  pub most_a : ends.a.window ≤ WINDOW_TOKENS
  pub most_b : ends.b.window ≤ WINDOW_TOKENS
  pub sum_a : ends.a.window ≡ (counts_of ends.forth).tokens + ends.b.buffered + (counts_of back).credits
  pub sum_b : ends.b.window ≡ (counts_of back).tokens + ends.a.buffered + (counts_of ends.forth).credits

-- ---- Logs

-- a directed link before a slot, and for the second one of a link what its ends hold
pub record IsLinkLog (slot : Slot) (delay : ℕ) (ends : Option EndsRec) (log : LogRec) : Type 0 where
  pub count : length log.entries < 2 ^ 32
  pub entries : AreLinkEntries slot delay log.entries
  pub windows : IfSome ends (λ e. FitWindows e log.entries)
  pub tokens : log.tokens < 2 ^ 63
  pub credits : log.credits < 2 ^ 63
  pub level : log.level ≡ 0

-- a wire between pins of this width before a slot
pub record IsWireLog (slot : Slot) (delay width : ℕ) (log : LogRec) : Type 0 where
  pub count : length log.entries < 2 ^ 32
  pub entries : AreWireEntries slot delay width log.entries
  pub tokens : log.tokens < 2 ^ 63
  pub credits : log.credits < 2 ^ 63
  pub level : log.level < 2 ^ width
