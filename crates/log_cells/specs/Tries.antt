-- What the calls of an end leave that claim the turn once and wait for nobody.
use Rattle.std.specs.Prelude.{◌≡◌, ◌≤◌, ◌+◌, Bool, true, false, List, [], ◌∷◌, Some}
use Rattle.xs_base.specs.Numbers.{Slot}
use Rattle.xs_base.specs.Batch.{BatchRec}
use Rattle.xs_base.specs.declared.entry.Entry.{Entry}
use Rattle.link_logs.specs.Logs.{WriteRec}
use Rattle.link_logs.specs.declared.answers.Cause.{Cause}
use Rattle.link_logs.specs.declared.answers.Got.{Got}
use Rattle.link_logs.specs.declared.answers.Got.TheVariants.{Closed}
use Rattle.log_cells.specs.declared.answers.Sent.{Sent}
use Rattle.log_cells.specs.declared.answers.Sent.TheVariants.{Done, Busy as held, Memory}
use Rattle.log_cells.specs.declared.answers.TryGot.{TryGot}
use Rattle.log_cells.specs.declared.answers.TryGot.TheVariants.{Got as found, Busy}
use Rattle.log_cells.specs.Ends.{CellWriteRec, CellReadRec, LooksAt, Gives}

module _ {Run : Type 0} where
  -- an end after a claim that found the turn held
  abbrev pub writer_refused : CellWriteRec Run → CellWriteRec Run
  writer_refused w = record w { refused = w.refused + 1 }

  abbrev pub reader_refused : CellReadRec Run → CellReadRec Run
  reader_refused r = record r { refused = r.refused + 1 }

  -- an end that writes after a turn: it knows what its log's end does, and has raised the news once more
  abbrev pub writer_had : CellWriteRec Run → WriteRec Run → CellWriteRec Run
  writer_had w end = record w { end = end; raised = w.raised + 1 }

  -- what an end and a batch are after a publish up to a slot, or where the turn was held or memory was wanting
  abbrev pub Publishes : CellWriteRec Run → BatchRec → Slot → Sent → CellWriteRec Run → BatchRec → Type 0
  Publishes old batch upto Done new left = (new ≡ writer_had old (record old.end { published = upto })) × (left.entries ≡ [])
  Publishes old batch upto held new left = (new ≡ writer_refused old) × (left ≡ batch)
  Publishes old batch upto Memory new left = (new ≡ writer_had old old.end) × (left ≡ batch)

  -- what an end is after a close, or where the turn was held
  abbrev pub Closes : CellWriteRec Run → Cause → Bool → CellWriteRec Run → Type 0
  Closes old cause true new = new ≡ writer_had old (record old.end { cause = Some cause })
  Closes old cause false new = new ≡ writer_refused old

  -- a look of an end in a turn of its own, at the log as that turn found it
  pub record LooksInTurn (at : Slot → List Entry) (old : CellReadRec Run) (got : Got) (new : CellReadRec Run) : Type 0 where
    pub look : LooksAt at old.end got new.end
    pub turn : new ≡ record old { end = new.end; turns = look.log ∷ old.turns }
    pub gives : Gives at old.end got new.end
    pub shut : old.end.shut ≡ true → got ≡ Closed
    pub more : old.end.looks ≤ new.end.looks

  -- what an end is after a look, or where the turn was held
  abbrev pub Takes : (Slot → List Entry) → CellReadRec Run → TryGot → CellReadRec Run → Type 0
  Takes at old (found got) new = LooksInTurn at old got new
  Takes at old Busy new = new ≡ reader_refused old
