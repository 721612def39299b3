-- A cell and its ends, as contracts see them, and what a look at a cell gives.
use Rattle.std.specs.Prelude.{◌≡◌, ℕ, ◌<◌, ◌≤◌, ◌+◌, min, true, IsSome, List}
use Rattle.atomic_table.specs.Seated.{TableId}
use Rattle.xs_base.specs.Numbers.{Slot, LinkNumber}
use Rattle.xs_base.specs.declared.entry.Entry.{Entry}
use Rattle.link_logs.specs.declared.answers.Got.{Got}
use Rattle.link_logs.specs.declared.answers.Got.TheVariants.{Entries, Nothing, Closed}
use Rattle.link_logs.specs.Entries.{between}
use Rattle.link_logs.specs.Logs.{LogRec, WriteRec, ReadRec, Reads, Finds, looked}

-- a cell: which table it is, and the run and the directed link or wire of its log
pub record CellRec (Run : Type 0) : Type 0 where
  pub table : TableId
  pub run : Run
  pub number : LinkNumber

-- an end of a cell: which table it is of, the end of the log, and how often it was refused the turn; of the end that writes, also how often it
-- raised the news, and of the end that reads the log as it found it at each turn that it had, the last first
pub record CellWriteRec (Run : Type 0) : Type 0 where
  pub table : TableId
  pub end : WriteRec Run
  pub refused : ℕ
  pub raised : ℕ

pub record CellReadRec (Run : Type 0) : Type 0 where
  pub table : TableId
  pub end : ReadRec Run
  pub refused : ℕ
  pub turns : List (LogRec Run)

abbrev pub one_more : ℕ → ℕ
one_more looks = min (looks + 1) 0xffffffffffffffff

module _ {Run : Type 0} where
  -- an end is a cell's
  pub record WritesTo (end : CellWriteRec Run) (cell : CellRec Run) : Type 0 where
    pub table : end.table ≡ cell.table
    pub run : end.end.run ≡ cell.run
    pub number : end.end.number ≡ cell.number

  pub record ReadsOf (end : CellReadRec Run) (cell : CellRec Run) : Type 0 where
    pub table : end.table ≡ cell.table
    pub run : end.end.run ≡ cell.run
    pub number : end.end.number ≡ cell.number

  -- after a call by an end it is an end of the same table, and was refused the turn at least as often
  pub record StaysWriter (old new : CellWriteRec Run) : Type 0 where
    pub table : new.table ≡ old.table
    pub refused : old.refused ≤ new.refused

  pub record StaysReader (old new : CellReadRec Run) : Type 0 where
    pub table : new.table ≡ old.table
    pub refused : old.refused ≤ new.refused

  -- a log is closed, and was published up to a slot
  pub record EndsAt (slot : Slot) (log : LogRec Run) : Type 0 where
    pub published : log.published ≡ slot
    pub closed : IsSome log.cause

  -- a look of an end at the log as it was then; an end that had found its log closed finds it ended where it has read
  pub record LooksAt (at : Slot → List Entry) (old : ReadRec Run) (got : Got) (new : ReadRec Run) : Type 0 where
    pub log : LogRec Run
    pub reads : Reads old log
    pub shut : old.shut ≡ true → EndsAt old.got log
    pub finds : Finds at log old.got got
    pub end : new ≡ looked log got old

  -- what an end has after a look that gave this
  abbrev pub Gives : (Slot → List Entry) → ReadRec Run → Got → ReadRec Run → Type 0
  Gives at old (Entries from to batch) new = (from ≡ old.got) × (from < to) × (batch.entries ≡ between at from to) × (new ≡ record old { got = to; looks = one_more old.looks })
  Gives at old (Nothing published) new = (published ≡ old.got) × (new ≡ record old { looks = one_more old.looks })
  Gives at old Closed new = new ≡ record old { looks = one_more old.looks; shut = true }

  -- the end, which has looked so often
  abbrev pub having_looked : ReadRec Run → ℕ → ReadRec Run
  having_looked end looks = record end { looks = looks }

  -- looks that gave nothing, and then one that gave this
  pub record WaitsFor (at : Slot → List Entry) (old : ReadRec Run) (got : Got) (new : ReadRec Run) : Type 0 where
    pub looks : ℕ
    pub more : old.looks ≤ looks
    pub log : LooksAt at (having_looked old looks) got new
    pub gives : Gives at (having_looked old looks) got new

abbrev pub IsNews : Got → Type 0
IsNews (Entries from to batch) = Unit {0}
IsNews (Nothing published) = ⊥
IsNews Closed = Unit {0}
