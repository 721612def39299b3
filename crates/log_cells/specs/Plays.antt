-- What each kind of step on a cell's words tells, and what an end has while it is its turn.
use Rattle.std.specs.Prelude.{◌≡◌, ◌≢◌, ℕ, ◌≤◌, ◌+◌, true, false, IsSome, List, [], ◌∷◌, Some, None}
use Rattle.atomic_table.specs.Table.{Me, Step}
use Rattle.atomic_table.specs.Seated.{TableId}
use Rattle.link_logs.specs.Logs.{LogRec, WriteRec, ReadRec, Writes, Reads}
use Rattle.log_cells.specs.declared.view.View.TheVariants.{Whole, Writer, Reader, Joined, Spent}
use Rattle.log_cells.specs.Ends.{EndsAt}
use Rattle.log_cells.specs.Rule.{WritingIn, ReadingIn, ViewIn, writing_of, reading_of, write_end_of, ReadsFrom, Agrees}

-- two words and one slot
pub record IsSized (z : TableId) : Type 0 where
  pub words : z.words ≡ 2
  pub slots : z.slots ≡ 1

abbrev pub SeatIn : Type 0 → Type 0
SeatIn Run = Me (LogRec Run) (ViewIn Run)

module _ {Run : Type 0} where
  -- a seat whose turn it is not
  abbrev pub writer_at : WriteRec Run → ℕ → ℕ → SeatIn Run
  writer_at end refused raised = (Writer (writing_of end refused raised), [])

  abbrev pub reader_at : ReadRec Run → ℕ → List (LogRec Run) → SeatIn Run
  reader_at end refused turns = (Reader (reading_of end refused turns), [])

  -- the logs that a seat has
  abbrev pub logs_in : List (ℕ × LogRec Run) → List (LogRec Run)
  logs_in [] = []
  logs_in (x ∷ xs) = x.1 ∷ logs_in xs

  -- a claim: where the word is free the log is the seat's, and where it is held the seat was refused
  abbrev pub WriterClaims : WritingIn Run → ℕ → SeatIn Run → Type 0
  WriterClaims v found m' =
      (found ≡ 0 → (log : LogRec Run) × Writes (write_end_of v) log × (m' ≡ (Writer (record v { held = Some log }), (0, log) ∷ [])))
      × (found ≢ 0 → m' ≡ (Writer (record v { refused = v.refused + 1 }), []))

  abbrev pub ReaderClaims : ReadingIn Run → ℕ → SeatIn Run → Type 0
  ReaderClaims v found m' =
      (found ≡ 0 → (log : LogRec Run) × ReadsFrom v log × (m' ≡ (Reader (record v { held = Some log; turns = log ∷ v.turns }), (0, log) ∷ [])))
      × (found ≢ 0 → m' ≡ (Reader (record v { refused = v.refused + 1 }), []))

  abbrev pub claims_as_writer : Step (LogRec Run) → SeatIn Run → ℕ → SeatIn Run → Type 0
  claims_as_writer st m found m' = (v : WritingIn Run) → m ≡ (Writer v, []) → WriterClaims v found m'

  abbrev pub claims_as_reader : Step (LogRec Run) → SeatIn Run → ℕ → SeatIn Run → Type 0
  claims_as_reader st m found m' = (v : ReadingIn Run) → m ≡ (Reader v, []) → ReaderClaims v found m'

  -- the log is given back with what it has published and, where it is closed, the cause
  abbrev pub gives_written : Step (LogRec Run) → SeatIn Run → ℕ → SeatIn Run → Type 0
  gives_written st m found m' = (v : WritingIn Run) (log : LogRec Run) → m ≡ (Writer v, (0, log) ∷ [])
      → m' ≡ (Writer (record v { published = log.published; cause = log.cause; held = None }), [])

  -- the log is given back, and all of it was taken
  abbrev pub gives_taken : Step (LogRec Run) → SeatIn Run → ℕ → SeatIn Run → Type 0
  gives_taken st m found m' = (v : ReadingIn Run) (log : LogRec Run) → m ≡ (Reader v, (0, log) ∷ []) → m' ≡ (Reader (record v { got = log.published; held = None }), [])

  -- the same, and it was found closed
  abbrev pub gives_shut : Step (LogRec Run) → SeatIn Run → ℕ → SeatIn Run → Type 0
  gives_shut st m found m' = (v : ReadingIn Run) (log : LogRec Run) → m ≡ (Reader v, (0, log) ∷ []) → m' ≡ (Reader (record v { got = log.published; shut = true; held = None }), [])

  -- the news are raised, by the end that writes where it does not have the log
  abbrev pub raises : Step (LogRec Run) → SeatIn Run → ℕ → SeatIn Run → Type 0
  raises st m found m' = (v : WritingIn Run) → m ≡ (Writer v, []) → m' ≡ (Writer (record v { raised = v.raised + 1 }), [])

  -- one seat is parted, and two are joined
  abbrev pub writer_part : ViewIn Run → ViewIn Run
  writer_part (Whole w r) = Writer w
  writer_part (Writer w) = Writer w
  writer_part (Reader r) = Spent
  writer_part (Joined w r) = Spent
  writer_part Spent = Spent

  abbrev pub reader_part : ViewIn Run → ViewIn Run
  reader_part (Whole w r) = Reader r
  reader_part (Writer w) = Spent
  reader_part (Reader r) = Reader r
  reader_part (Joined w r) = Spent
  reader_part Spent = Spent

  abbrev pub with_reader : WritingIn Run → ViewIn Run → ViewIn Run
  with_reader w (Reader r) = Joined w r
  with_reader w _ = Spent

  abbrev pub joined_view : ViewIn Run → ViewIn Run → ViewIn Run
  joined_view (Writer w) v = with_reader w v
  joined_view _ v = Spent

  -- a log that went on from another as its writer may let it: one that is closed does not go on, and keeps the cause
  pub record Follows (old new : LogRec Run) : Type 0 where
    pub run : new.run ≡ old.run
    pub number : new.number ≡ old.number
    pub base : new.base ≡ old.base
    pub published : old.published ≤ new.published
    pub closed : IsSome old.cause → EndsAt old.published new
    pub cause : IsSome old.cause → new.cause ≡ old.cause

  -- a log that is another to its writer's eyes
  pub record SameToWriter (old new : LogRec Run) : Type 0 where
    pub run : new.run ≡ old.run
    pub number : new.number ≡ old.number
    pub published : new.published ≡ old.published
    pub cause : new.cause ≡ old.cause

  -- the seat of the end that writes has the log, was refused the turn so often, and has raised the news so often
  pub record WriterHas (end : WriteRec Run) (refused raised : ℕ) (m : SeatIn Run) : Type 0 where
    pub view : WritingIn Run
    pub found : LogRec Run
    pub log : LogRec Run
    pub me_is : m ≡ (Writer view, (0, log) ∷ [])
    pub held : view.held ≡ Some found
    pub refused_is : view.refused ≡ refused
    pub raised_is : view.raised ≡ raised
    pub run : view.run ≡ end.run
    pub number : view.number ≡ end.number
    pub writes : Writes end log
    pub follows : Follows found log

  -- the same of the end that reads, and what its turns found
  pub record ReaderHas (end : ReadRec Run) (refused : ℕ) (turns : List (LogRec Run)) (m : SeatIn Run) : Type 0 where
    pub view : ReadingIn Run
    pub found : LogRec Run
    pub log : LogRec Run
    pub me_is : m ≡ (Reader view, (0, log) ∷ [])
    pub held : view.held ≡ Some found
    pub refused_is : view.refused ≡ refused
    pub turns_are : view.turns ≡ turns
    pub run : view.run ≡ end.run
    pub number : view.number ≡ end.number
    pub reads : Reads end log
    pub shut : end.shut ≡ true → EndsAt end.got log
    pub same : SameToWriter found log

  -- it has not looked yet; it has taken all, and where it has not found the log closed it had not before
  abbrev pub HasClaimed : ReadRec Run → ℕ → List (LogRec Run) → SeatIn Run → Type 0
  HasClaimed end refused turns m = (has : ReaderHas end refused turns m) × (has.view.shut ≡ end.shut)

  abbrev pub HasTaken : ReadRec Run → ℕ → List (LogRec Run) → SeatIn Run → Type 0
  HasTaken end refused turns m = (has : ReaderHas end refused turns m) × (end.got ≡ has.log.published) × (end.shut ≡ false → has.view.shut ≡ false)

  -- the seat of two ends that were joined, neither of which has the log; and what is then known of the log
  abbrev pub IsJoined : ViewIn Run → Type 0
  IsJoined (Joined w r) = (w.held ≡ None) × (r.held ≡ None)
  IsJoined _ = ⊥

  abbrev pub AgreesWith : ViewIn Run → LogRec Run → Type 0
  AgreesWith (Joined w r) log = Agrees log w r
  AgreesWith _ log = ⊥
