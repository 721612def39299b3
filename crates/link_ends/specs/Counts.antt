-- What a link end keeps, by counts, and the link record that it stands for.
use Rattle.std.specs.Prelude.{ℕ, ◌≡◌, ◌+◌, ◌≤◌, Bool, ◌&&◌, nat_lt, Option, None, List, [], ◌∷◌, length}
use Rattle.xs_base.specs.Numbers.{Slot}
use Rattle.xs_base.specs.declared.numbers.TheConstants.{WINDOW_TOKENS}
use Rattle.xs_base.specs.declared.token.Token.{Token}
use Rattle.xs_model.specs.Record.{LinkRec}
use Rattle.net_model.specs.Links.{latest, gap_is_over}

-- what a link end keeps, by counts: the gap in slots, the tokens that wait, how many of the tokens sent are without a
-- credit, and the slot of the last token sent, or never
pub record EndCounts : Type 0 where
  pub gap : ℕ
  pub buffer : List Token
  pub outstanding : ℕ
  pub last_sent : Option Slot

-- nothing waits, and nothing was ever sent
abbrev pub fresh_counts : ℕ → EndCounts
fresh_counts gap = record { gap = gap; buffer = []; outstanding = 0; last_sent = None }

-- a token may be sent in this slot
abbrev pub can_send : EndCounts → Slot → Bool
can_send counts slot = nat_lt counts.outstanding WINDOW_TOKENS && gap_is_over counts.gap slot counts.last_sent

-- no slot is earlier than the one before it
abbrev pub NeverFall : List Slot → Type 0
NeverFall [] = Unit {0}
NeverFall (s ∷ []) = Unit {0}
NeverFall (s ∷ r ∷ rest) = (s ≤ r) × NeverFall (r ∷ rest)

-- these are the counts of what the lists of the link record tell
pub record CountsOf (counts : EndCounts) (link : LinkRec) : Type 0 where
  pub buffer : counts.buffer ≡ link.buffer
  pub open_tokens : counts.outstanding + length link.credited ≡ length link.sent
  pub last_sent : counts.last_sent ≡ latest link.sent
  pub rises : NeverFall link.sent
