-- A log of what a directed link or a wire carries in a run, and its two ends.
use Rattle.std.specs.Prelude.{ℕ, ◌≡◌, ◌<◌, ◌≤◌, ◌+◌, min, Bool, true, false, ◌||◌, Option, None, IsSome, List, []}
use Rattle.xs_base.specs.Numbers.{Slot, LinkNumber}
use Rattle.xs_base.specs.declared.entry.Entry.{Entry}
use Rattle.link_logs.specs.declared.answers.Cause.{Cause}
use Rattle.link_logs.specs.declared.answers.Got.{Got}
use Rattle.link_logs.specs.declared.answers.Got.TheVariants.{Entries, Nothing, Closed}
use Rattle.link_logs.specs.Entries.{between, tokens_in, credits_in}

-- a log: of which run and directed link or wire, the entries from one slot on and before another, and, where it is closed, the cause
pub record LogRec (Run : Type 0) : Type 0 where
  pub run : Run
  pub number : LinkNumber
  pub base : Slot
  pub published : Slot
  pub entries : List Entry
  pub cause : Option Cause

-- what a log has of a link or a wire: its entries from its base on and before the published slot, and how many tokens, or levels of a wire,
-- and credits that carried before the published slot, from slot 0 on
pub record IsWhole (at : Slot → List Entry) (base published : Slot) (entries : List Entry) (tokens credits : ℕ) : Type 0 where
  pub on : base ≤ published
  pub own : entries ≡ between at base published
  pub all_tokens : tokens ≡ tokens_in (between at 0 published)
  pub all_credits : credits ≡ credits_in (between at 0 published)

-- the end that writes: up to which slot it has published, and, where it has closed the log, the cause
pub record WriteRec (Run : Type 0) : Type 0 where
  pub run : Run
  pub number : LinkNumber
  pub published : Slot
  pub cause : Option Cause

-- the end that reads: up to which slot it has read, how often it has looked, and whether it has found the log closed
pub record ReadRec (Run : Type 0) : Type 0 where
  pub run : Run
  pub number : LinkNumber
  pub got : Slot
  pub looks : ℕ
  pub shut : Bool

abbrev pub is_closed : Got → Bool
is_closed (Entries from to batch) = false
is_closed (Nothing published) = false
is_closed Closed = true

module _ {Run : Type 0} where
  -- an end is a log's
  pub record Writes (end : WriteRec Run) (log : LogRec Run) : Type 0 where
    pub run : end.run ≡ log.run
    pub number : end.number ≡ log.number
    pub published : end.published ≡ log.published
    pub cause : end.cause ≡ log.cause

  pub record Reads (end : ReadRec Run) (log : LogRec Run) : Type 0 where
    pub run : end.run ≡ log.run
    pub number : end.number ≡ log.number
    pub base : log.base ≡ end.got
    pub published : end.got ≤ log.published

  -- the log after a look: its entries were moved out
  abbrev pub emptied : LogRec Run → LogRec Run
  emptied log = record log { base = log.published; entries = [] }

  -- what a look finds, where the end had read up to a slot
  abbrev pub Finds : (Slot → List Entry) → LogRec Run → Slot → Got → Type 0
  Finds at log slot (Entries from to batch) = (slot < log.published) × (from ≡ slot) × (to ≡ log.published) × (batch.entries ≡ between at slot log.published)
  Finds at log slot (Nothing published) = (log.published ≡ slot) × (log.cause ≡ None) × (published ≡ slot)
  Finds at log slot Closed = (log.published ≡ slot) × IsSome log.cause

  -- the end after that look
  abbrev pub looked : LogRec Run → Got → ReadRec Run → ReadRec Run
  looked log got end = record end { got = log.published; looks = min (end.looks + 1) 0xffffffffffffffff; shut = end.shut || is_closed got }

  -- a log and its ends as they are made
  abbrev pub new_log : Run → LinkNumber → LogRec Run
  new_log run number = record { run = run; number = number; base = 0; published = 0; entries = []; cause = None }

  abbrev pub new_write_end : Run → LinkNumber → WriteRec Run
  new_write_end run number = record { run = run; number = number; published = 0; cause = None }

  abbrev pub new_read_end : Run → LinkNumber → ReadRec Run
  new_read_end run number = record { run = run; number = number; got = 0; looks = 0; shut = false }
