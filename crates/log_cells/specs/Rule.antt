-- The rule of a cell: one log, whose turn it is, and what its two ends know.
-- The turn word is 0 where it is nobody's turn, 1 where it is the writer's and 2 where it is the reader's. The news word is how often the end that
-- writes has raised the news, modulo 2^64.
use Rattle.std.specs.Prelude.{◌≡◌, ℕ, ◌≤◌, ◌%◌, ◌^◌, true, false, IsSome, List, [], ◌∷◌, Option, Some, None}
use Rattle.std.specs.List.{AllByRecursion}
use mathlib.Core.Option.{some, none}
use mathlib.Core.Option as maybe
use Rattle.atomic_table.specs.Table.{State}
use Rattle.xs_base.specs.Numbers.{LinkNumber}
use Rattle.link_logs.specs.Logs.{LogRec, WriteRec, ReadRec, Writes}
use Rattle.log_cells.specs.Ends.{EndsAt}
use Rattle.log_cells.specs.declared.view.Writing.{Writing}
use Rattle.log_cells.specs.declared.view.Reading.{Reading}
use Rattle.log_cells.specs.declared.view.View.{View}
use Rattle.log_cells.specs.declared.view.View.TheVariants.{Whole, Writer, Reader, Joined, Spent}

abbrev pub WritingIn : Type 0 → Type 0
WritingIn Run = Writing (LogRec Run) Run

abbrev pub ReadingIn : Type 0 → Type 0
ReadingIn Run = Reading (LogRec Run) Run

abbrev pub ViewIn : Type 0 → Type 0
ViewIn Run = View (LogRec Run) Run

-- whose turn it is
pub data Turn : Type 0 where
  free : Turn
  writers : Turn
  readers : Turn

abbrev pub turn_word : Turn → ℕ
turn_word free = 0
turn_word writers = 1
turn_word readers = 2

-- one seat at first, then a seat for each end, and one again
pub data Stage : Type 0 where
  made : Stage
  parted : Stage
  joined : Stage

module _ {Run : Type 0} where
  -- what an end of a log knows, as its seat knows it where it has no turn
  abbrev pub writing_of : WriteRec Run → ℕ → ℕ → WritingIn Run
  writing_of end refused raised = record { run = end.run; number = end.number; published = end.published; cause = end.cause; held = None; refused = refused; raised = raised }

  abbrev pub reading_of : ReadRec Run → ℕ → List (LogRec Run) → ReadingIn Run
  reading_of end refused turns = record { run = end.run; number = end.number; got = end.got; shut = end.shut; held = None; refused = refused; turns = turns }

  -- the end of a log that knows as much as a seat
  abbrev pub write_end_of : WritingIn Run → WriteRec Run
  write_end_of w = record { run = w.run; number = w.number; published = w.published; cause = w.cause }

  -- the end of a log that reads has read up to the slot at which the log begins; where it has found the log closed, the log ends there
  pub record ReadsFrom (r : ReadingIn Run) (log : LogRec Run) : Type 0 where
    pub run : r.run ≡ log.run
    pub number : r.number ≡ log.number
    pub base : log.base ≡ r.got
    pub published : r.got ≤ log.published
    pub shut : r.shut ≡ true → EndsAt r.got log

  -- a log goes on from another: no less is published, and where that was closed, no more, and for the same cause
  pub record Continues (log before : LogRec Run) : Type 0 where
    pub run : log.run ≡ before.run
    pub number : log.number ≡ before.number
    pub published : before.published ≤ log.published
    pub closed : IsSome before.cause → (log.published ≡ before.published) × (log.cause ≡ before.cause)

  -- what is said of the log at home, and of a log that an end has, as it found it; it goes on from what the end that reads found at each turn
  pub record Agrees (log : LogRec Run) (w : WritingIn Run) (r : ReadingIn Run) : Type 0 where
    pub writes : Writes (write_end_of w) log
    pub reads : ReadsFrom r log
    pub turns : AllByRecursion (Continues log) r.turns

  abbrev pub home_at : Turn → LogRec Run → maybe.Option (LogRec Run)
  home_at free log = some log
  home_at writers log = none
  home_at readers log = none

  abbrev pub writer_has : Turn → LogRec Run → Option (LogRec Run)
  writer_has free log = None
  writer_has writers log = Some log
  writer_has readers log = None

  abbrev pub reader_has : Turn → LogRec Run → Option (LogRec Run)
  reader_has free log = None
  reader_has writers log = None
  reader_has readers log = Some log

  -- by whose turn it is, the log is at home, or that end has found it as it is said here
  pub record Fits (word : ℕ) (home : maybe.Option (LogRec Run)) (w : WritingIn Run) (r : ReadingIn Run) : Type 0 where
    pub turn : Turn
    pub log : LogRec Run
    pub word_is : word ≡ turn_word turn
    pub home_is : home ≡ home_at turn log
    pub writer_has : w.held ≡ writer_has turn log
    pub reader_has : r.held ≡ reader_has turn log
    pub agrees : Agrees log w r

  abbrev pub seats_at : Stage → WritingIn Run → ReadingIn Run → List (ViewIn Run)
  seats_at made w r = Whole w r ∷ []
  seats_at parted w r = Writer w ∷ Reader r ∷ []
  seats_at joined w r = Joined w r ∷ Spent ∷ []

  -- a cell of this run and this link
  pub record IsCell (run : Run) (number : LinkNumber) (s : State (LogRec Run) (ViewIn Run)) : Type 0 where
    pub word : ℕ
    pub news : ℕ
    pub home : maybe.Option (LogRec Run)
    pub stage : Stage
    pub w : WritingIn Run
    pub r : ReadingIn Run
    pub words : s.words ≡ word ∷ news ∷ []
    pub homes : s.homes ≡ home ∷ []
    pub views : s.views ≡ seats_at stage w r
    pub fits : Fits word home w r
    pub of_run : r.run ≡ run
    pub of_number : r.number ≡ number
    pub raised : news ≡ w.raised % 2 ^ 64

  -- of a new log
  abbrev pub new_view : WriteRec Run → ViewIn Run
  new_view end = Whole (writing_of end 0 0) (record { run = end.run; number = end.number; got = 0; shut = false; held = None; refused = 0; turns = [] })

  -- how often a seat was refused the turn
  abbrev pub refused_of : ViewIn Run → ℕ
  refused_of (Whole w r) = 0
  refused_of (Writer w) = w.refused
  refused_of (Reader r) = r.refused
  refused_of (Joined w r) = 0
  refused_of Spent = 0

  -- how often a seat raised the news
  abbrev pub raised_of : ViewIn Run → ℕ
  raised_of (Whole w r) = 0
  raised_of (Writer w) = w.raised
  raised_of (Reader r) = 0
  raised_of (Joined w r) = 0
  raised_of Spent = 0

  -- the log as the seat of an end that reads found it at each turn that it had, the last first
  abbrev pub turns_of : ViewIn Run → List (LogRec Run)
  turns_of (Whole w r) = []
  turns_of (Writer w) = []
  turns_of (Reader r) = r.turns
  turns_of (Joined w r) = []
  turns_of Spent = []
