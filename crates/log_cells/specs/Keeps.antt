-- What every cell keeps between any two steps of any two threads, and what a step of an end leaves of what that end knows.
use Rattle.std.specs.Prelude.{◌≡◌, ℕ, zero, suc, ◌≤◌, ◌+◌, ◌%◌, ◌^◌, true, IsSome, slice_index, List, [], ◌∷◌, ◌++◌, Some, None}
use Rattle.std.specs.List.{AllByRecursion}
use mathlib.Core.Option.{some, none}
use lib.ListN.{get_elem?}
use Rattle.atomic_table.specs.Table.{State, Step}
use Rattle.xs_base.specs.Numbers.{Slot, LinkNumber}
use Rattle.xs_base.specs.declared.entry.Entry.{Entry}
use Rattle.link_logs.specs.Entries.{between}
use Rattle.link_logs.specs.Logs.{LogRec, WriteRec, ReadRec, Writes, Reads}
use Rattle.log_cells.specs.declared.view.View.TheVariants.{Writer, Reader}
use Rattle.log_cells.specs.Ends.{CellRec, CellWriteRec, CellReadRec, WritesTo, ReadsOf, EndsAt}
use Rattle.log_cells.specs.Rule.{WritingIn, ReadingIn, ViewIn, Turn, free, writers, readers, turn_word, Stage, seats_at, IsCell, writing_of, reading_of, refused_of, raised_of, turns_of, Continues}
use Rattle.log_cells.specs.Plays.{SeatIn, logs_in, claims_as_writer, claims_as_reader, gives_written, gives_taken, gives_shut, raises, WriterHas, HasTaken}

-- a cell's words, its log where that is in its place, and what its seats know
abbrev pub CellState : Type 0 → Type 0
CellState Run = State (LogRec Run) (ViewIn Run)

-- how often a claim is refused that finds this turn word: once where the word is held
abbrev pub refusals : ℕ → ℕ
refusals zero = 0
refusals (suc held) = 1

module _ {Run : Type 0} where
  -- ---- At a moment between two steps

  -- by a cell's rule, its log is this one: in its place, or as the end found it that has it
  pub record IsMoment (cell : CellRec Run) (s : CellState Run) (log : LogRec Run) : Type 0 where
    pub rule : IsCell cell.run cell.number s
    pub log_is : rule.fits.log ≡ log

  -- who has the log: nobody, the end that writes or the end that reads
  abbrev pub IsWith : Turn → CellState Run → WritingIn Run → ReadingIn Run → LogRec Run → Type 0
  IsWith free s writer reader log = (s.homes ≡ some log ∷ []) × (writer.held ≡ None) × (reader.held ≡ None)
  IsWith writers s writer reader log = (s.homes ≡ none ∷ []) × (writer.held ≡ Some log) × (reader.held ≡ None)
  IsWith readers s writer reader log = (s.homes ≡ none ∷ []) × (writer.held ≡ None) × (reader.held ≡ Some log)

  abbrev pub HasSeat : CellState Run → ViewIn Run → Type 0
  HasSeat s view = (seat : ℕ) × (get_elem? s.views seat ≡ some view)

  -- a log is of the run and the link of a cell
  pub record IsOfLink (cell : CellRec Run) (log : LogRec Run) : Type 0 where
    pub run : log.run ≡ cell.run
    pub number : log.number ≡ cell.number

  -- of an end that reads and is not at work
  pub record IsRead (log : LogRec Run) (end : CellReadRec Run) : Type 0 where
    pub reads : Reads end.end log
    pub shut : end.end.shut ≡ true → EndsAt end.end.got log
    pub turns : AllByRecursion (Continues log) end.turns

  -- what a cell keeps, where a link carries these entries in each slot
  pub record CellKeeps (at : Run → LinkNumber → Slot → List Entry) (cell : CellRec Run) (s : CellState Run) (log : LogRec Run) : Type 0 where
    -- what the end that writes and the end that reads know, each by its seat or both by one
    pub writer : WritingIn Run
    pub reader : ReadingIn Run
    pub stage : Stage
    pub seats : s.views ≡ seats_at stage writer reader
    -- it is of the cell's run and link, and both ends name them
    pub link : IsOfLink cell log
    pub run : (writer.run ≡ log.run) × (reader.run ≡ log.run)
    pub number : (writer.number ≡ log.number) × (reader.number ≡ log.number)
    -- the log begins where what was read ends, and that no later than what is published
    pub base : log.base ≡ reader.got
    pub got : reader.got ≤ log.published
    pub published : writer.published ≡ log.published
    -- what the link carries from the base on and before the published slot, each entry once and in order
    pub entries : log.entries ≡ between (at log.run log.number) log.base log.published
    -- whether it is closed, and for which cause, its writer knows; its reader has found it so where all is read alone
    pub cause : writer.cause ≡ log.cause
    pub shut : reader.shut ≡ true → EndsAt reader.got log
    -- it goes on from what the end that reads found at each turn that it had
    pub turns : AllByRecursion (Continues log) reader.turns
    -- the turn word says who has it
    pub turn : Turn
    pub word : slice_index s.words 0 ≡ turn_word turn
    pub with : IsWith turn s writer reader log
    -- the news word says how often the writer has raised it
    pub news : slice_index s.words 1 ≡ writer.raised % 2 ^ 64
    -- of an end of this cell that is not at work
    pub written : (end : CellWriteRec Run) → WritesTo end cell → HasSeat s (Writer (writing_of end.end end.refused end.raised)) → Writes end.end log
    pub read : (end : CellReadRec Run) → ReadsOf end cell → HasSeat s (Reader (reading_of end.end end.refused end.turns)) → IsRead log end

  -- ---- From one step to the next

  -- the published slot does not fall, and where the log is closed it stays, and the cause too
  pub record WritesOn (before after : WritingIn Run) : Type 0 where
    pub run : after.run ≡ before.run
    pub number : after.number ≡ before.number
    pub published : before.published ≤ after.published
    pub closed : IsSome before.cause → (after.published ≡ before.published) × (after.cause ≡ before.cause)

  -- what was read is not read again, and where the close was found nothing more is
  pub record ReadsOn (before after : ReadingIn Run) : Type 0 where
    pub run : after.run ≡ before.run
    pub number : after.number ≡ before.number
    pub got : before.got ≤ after.got
    pub shut : before.shut ≡ true → (after.got ≡ before.got) × (after.shut ≡ true)

  abbrev pub WriterGoesOn : WritingIn Run → ViewIn Run → Type 0
  WriterGoesOn before (Writer after) = WritesOn before after
  WriterGoesOn before _ = ⊥

  abbrev pub ReaderGoesOn : ReadingIn Run → ViewIn Run → Type 0
  ReaderGoesOn before (Reader after) = ReadsOn before after
  ReaderGoesOn before _ = ⊥

  abbrev pub GoesOn : ViewIn Run → ViewIn Run → Type 0
  GoesOn (Writer before) after = WriterGoesOn before after
  GoesOn (Reader before) after = ReaderGoesOn before after
  GoesOn _ after = ⊥

  -- a seat of which this is so goes on by a step of this kind, whatever word it finds
  abbrev pub GoesOnBy : (SeatIn Run → ℕ → SeatIn Run → Type 0) → (SeatIn Run → Type 0) → Type 0
  GoesOnBy kind Is = (cell : CellRec Run) (s : CellState Run) → IsCell cell.run cell.number s → (me me' : SeatIn Run) (found : ℕ) → HasSeat s me.0 → Is me → kind me found me' → GoesOn me.0 me'.0

  -- ---- What is counted

  -- a seat was refused the turn so many times more, has had the turns besides in which it found these logs, and raised the news so many times more
  pub record Counts (more : ℕ) (found : List (LogRec Run)) (news : ℕ) (before after : SeatIn Run) : Type 0 where
    pub refused : refused_of after.0 ≡ refused_of before.0 + more
    pub turns : turns_of after.0 ≡ found ++ turns_of before.0
    pub raised : raised_of after.0 ≡ raised_of before.0 + news

  -- a claim is counted by the word that it finds and the logs that the seat takes, a raise is counted once, and another step is not
  abbrev pub CountsClaim : (SeatIn Run → ℕ → SeatIn Run → Type 0) → (SeatIn Run → List (LogRec Run)) → SeatIn Run → Type 0
  CountsClaim kind found me = (me' : SeatIn Run) (word : ℕ) → kind me word me' → Counts (refusals word) (found me') 0 me me'

  abbrev pub CountsRaise : (SeatIn Run → ℕ → SeatIn Run → Type 0) → SeatIn Run → Type 0
  CountsRaise kind me = (me' : SeatIn Run) (word : ℕ) → kind me word me' → Counts 0 [] 1 me me'

  abbrev pub CountsNothing : (SeatIn Run → ℕ → SeatIn Run → Type 0) → SeatIn Run → Type 0
  CountsNothing kind me = (me' : SeatIn Run) (word : ℕ) → kind me word me' → Counts 0 [] 0 me me'

-- each claim, each giving back and each raise by an end, from where its calls make it
pub record StepsGoOn (Run : Type 0) : Type 0 where
  pub claim_to_write : (step : Step (LogRec Run)) (view : WritingIn Run) → GoesOnBy (claims_as_writer step) (λ me. me ≡ (Writer view, []))
  pub claim_to_read : (step : Step (LogRec Run)) (view : ReadingIn Run) → GoesOnBy (claims_as_reader step) (λ me. me ≡ (Reader view, []))
  pub give_written : (step : Step (LogRec Run)) (end : WriteRec Run) (refused raised : ℕ) → GoesOnBy (gives_written step) (WriterHas end refused raised)
  pub give_taken : (step : Step (LogRec Run)) (end : ReadRec Run) (refused : ℕ) (turns : List (LogRec Run)) → GoesOnBy (gives_taken step) (HasTaken end refused turns)
  pub give_shut : (step : Step (LogRec Run)) (end : ReadRec Run) (refused : ℕ) (turns : List (LogRec Run)) → GoesOnBy (gives_shut step) (HasTaken end refused turns)
  pub raise : (step : Step (LogRec Run)) (view : WritingIn Run) → GoesOnBy (raises step) (λ me. me ≡ (Writer view, []))

-- a claim that finds the turn word held is counted as a refusal; one by the end that reads that finds it free, as a turn in which it found the
-- log that it takes; raising the news is counted as that; no other step of an end at work counts anything
pub record StepsCount (Run : Type 0) : Type 0 where
  pub claim_to_write : (step : Step (LogRec Run)) (view : WritingIn Run) → CountsClaim (claims_as_writer step) (λ me. []) (Writer view, [])
  pub claim_to_read : (step : Step (LogRec Run)) (view : ReadingIn Run) → CountsClaim (claims_as_reader step) (λ me. logs_in me.1) (Reader view, [])
  pub give_written : (step : Step (LogRec Run)) (view : WritingIn Run) (log : LogRec Run) → CountsNothing (gives_written step) (Writer view, (0, log) ∷ [])
  pub give_taken : (step : Step (LogRec Run)) (view : ReadingIn Run) (log : LogRec Run) → CountsNothing (gives_taken step) (Reader view, (0, log) ∷ [])
  pub give_shut : (step : Step (LogRec Run)) (view : ReadingIn Run) (log : LogRec Run) → CountsNothing (gives_shut step) (Reader view, (0, log) ∷ [])
  pub raise : (step : Step (LogRec Run)) (view : WritingIn Run) → CountsRaise (raises step) (Writer view, [])
