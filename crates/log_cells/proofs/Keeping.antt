-- A cell keeps what it is said to keep, and each kind of step goes on from what an end knew.
use Rattle.std.proofs.Common.{◌≡◌, ℕ, ◌+◌, List, [], ◌∷◌, sym, refl, ap, ◌∙◌, subst, arith, true, is_some, Option, Some, None, get_or}
use Rattle.std.specs.List.{AllByRecursion}
use mathlib.Core.Option.{some, none}
use mathlib.Core.Option as maybe
use lib.ListN.{get_elem?}
use Rattle.atomic_table.specs.Table.{Step}
use Rattle.xs_base.specs.Numbers.{Slot, LinkNumber}
use Rattle.xs_base.specs.declared.entry.Entry.{Entry}
use Rattle.link_logs.specs.Entries.{between}
use Rattle.link_logs.specs.Logs.{LogRec, WriteRec, ReadRec, Writes}
use Rattle.log_cells.specs.declared.view.View.TheVariants.{Writer, Reader}
use Rattle.log_cells.specs.Ends.{CellRec, CellWriteRec, CellReadRec, WritesTo, ReadsOf}
use Rattle.log_cells.specs.Rule.{WritingIn, ReadingIn, ViewIn, Turn, free, writers, readers, home_at, writer_has, reader_has, Agrees, ReadsFrom, Continues, Fits, IsCell, write_end_of, writing_of, reading_of}
use Rattle.log_cells.specs.Plays.{SeatIn, claims_as_writer, claims_as_reader, gives_written, gives_taken, gives_shut, raises, WriterHas, ReaderHas, HasTaken}
use Rattle.log_cells.specs.Keeps.{CellState, IsMoment, IsWith, HasSeat, IsRead, CellKeeps, WritesOn, ReadsOn, GoesOn, GoesOnBy, StepsGoOn}
use Rattle.log_cells.proofs.Seats.{writer_seat, reader_seat, is_writers, is_readers}
use Rattle.log_cells.proofs.Kept.{by_word}

module _ {Run : Type 0} where
  with_by : (turn : Turn) (s : CellState Run) (w : WritingIn Run) (r : ReadingIn Run) (home : maybe.Option (LogRec Run)) (log : LogRec Run) → s.homes ≡ home ∷ [] → home ≡ home_at turn log → w.held ≡ writer_has turn log → r.held ≡ reader_has turn log
      → IsWith turn s w r log
  with_by free s w r home log a b c d = (a ∙ ap (λ (h : maybe.Option (LogRec Run)). h ∷ []) b, c, d)
  with_by writers s w r home log a b c d = (a ∙ ap (λ (h : maybe.Option (LogRec Run)). h ∷ []) b, c, d)
  with_by readers s w r home log a b c d = (a ∙ ap (λ (h : maybe.Option (LogRec Run)). h ∷ []) b, c, d)

  module _ (cell : CellRec Run) (s : CellState Run) (c : IsCell cell.run cell.number s) where
    written_by : (end : CellWriteRec Run) → WritesTo end cell → HasSeat s (Writer (writing_of end.end end.refused end.raised)) → Writes end.end c.fits.log
    written_by end of seat =
        let here = writer_seat c.stage c.w c.r seat.0 _ (ap (λ (l : List (ViewIn Run)). get_elem? l seat.0) (sym c.views) ∙ seat.1) in
        let writes = subst (λ (w : WritingIn Run). Writes (write_end_of w) c.fits.log) here.2 c.fits.agrees.writes in
        record { run = writes.run; number = writes.number; published = writes.published; cause = writes.cause }

    read_by : (end : CellReadRec Run) → ReadsOf end cell → HasSeat s (Reader (reading_of end.end end.refused end.turns)) → IsRead c.fits.log end
    read_by end of seat =
        let here = reader_seat c.stage c.w c.r seat.0 _ (ap (λ (l : List (ViewIn Run)). get_elem? l seat.0) (sym c.views) ∙ seat.1) in
        let reads = subst (λ (r : ReadingIn Run). ReadsFrom r c.fits.log) here.2 c.fits.agrees.reads in
        let turns = subst (λ (r : ReadingIn Run). AllByRecursion (Continues c.fits.log) r.turns) here.2 c.fits.agrees.turns in
        record { reads = record { run = reads.run; number = reads.number; base = reads.base; published = reads.published }; shut = reads.shut; turns = turns }

  kept_by : (at : Run → LinkNumber → Slot → List Entry) (cell : CellRec Run) (s : CellState Run) (c : IsCell cell.run cell.number s) → c.fits.log.entries ≡ between (at c.fits.log.run c.fits.log.number) c.fits.log.base c.fits.log.published
      → CellKeeps at cell s c.fits.log
  kept_by at cell s c own = let f = c.fits in record {
    writer = c.w;
    reader = c.r;
    stage = c.stage;
    seats = c.views;
    link = record { run = sym f.agrees.reads.run ∙ c.of_run; number = sym f.agrees.reads.number ∙ c.of_number };
    run = (f.agrees.writes.run, f.agrees.reads.run);
    number = (f.agrees.writes.number, f.agrees.reads.number);
    base = f.agrees.reads.base;
    got = f.agrees.reads.published;
    published = f.agrees.writes.published;
    entries = own;
    cause = f.agrees.writes.cause;
    shut = f.agrees.reads.shut;
    turns = f.agrees.turns;
    turn = f.turn;
    word = ap (λ (l : List ℕ). get_or l 0 0) c.words ∙ f.word_is;
    with = with_by f.turn s c.w c.r c.home f.log c.homes f.home_is f.writer_has f.reader_has;
    news = ap (λ (l : List ℕ). get_or l 1 0) c.words ∙ c.raised;
    written = written_by cell s c;
    read = read_by cell s c;
  }

  pub cell_keeps : (at : Run → LinkNumber → Slot → List Entry) (cell : CellRec Run) (log : LogRec Run) → log.entries ≡ between (at log.run log.number) log.base log.published → (s : CellState Run) → IsMoment cell s log → CellKeeps at cell s log
  cell_keeps at cell log own s moment = subst (λ (l : LogRec Run). l.entries ≡ between (at l.run l.number) l.base l.published → CellKeeps at cell s l) moment.log_is (kept_by at cell s moment.rule) own

  -- what two seats have as their views
  moves : (me me' : SeatIn Run) (before after : ViewIn Run) (x y : List (ℕ × LogRec Run)) → me ≡ (before, x) → me' ≡ (after, y) → GoesOn before after → GoesOn me.0 me'.0
  moves me me' before after x y e f h = subst (λ (p : ViewIn Run × ViewIn Run). GoesOn p.0 p.1) (λ i. ((sym e i).0, (sym f i).0)) h

  stays_writing : (v : WritingIn Run) (held : Option (LogRec Run)) (refused raised : ℕ) → WritesOn v (record v { held = held; refused = refused; raised = raised })
  stays_writing v held refused raised = record { run = refl; number = refl; published = omega arith; closed = λ h. (refl, refl) }

  stays_reading : (v : ReadingIn Run) (held : Option (LogRec Run)) (refused : ℕ) (turns : List (LogRec Run)) → ReadsOn v (record v { held = held; refused = refused; turns = turns })
  stays_reading v held refused turns = record { run = refl; number = refl; got = omega arith; shut = λ h. (refl, h) }

  claims_writing : (step : Step (LogRec Run)) (v : WritingIn Run) → GoesOnBy (claims_as_writer step) (λ me. me ≡ (Writer v, []))
  claims_writing step v cell s rule me me' found seat is kind = by_word found
      (λ z. let won = (kind v is).0 z in moves me me' (Writer v) (Writer (record v { held = Some won.0 })) [] ((0, won.0) ∷ []) is won.2 (stays_writing v (Some won.0) v.refused v.raised))
      (λ n. moves me me' (Writer v) (Writer (record v { refused = v.refused + 1 })) [] [] is ((kind v is).1 n) (stays_writing v v.held (v.refused + 1) v.raised))

  claims_reading : (step : Step (LogRec Run)) (v : ReadingIn Run) → GoesOnBy (claims_as_reader step) (λ me. me ≡ (Reader v, []))
  claims_reading step v cell s rule me me' found seat is kind = by_word found
      (λ z. let won = (kind v is).0 z in moves me me' (Reader v) (Reader (record v { held = Some won.0; turns = won.0 ∷ v.turns })) [] ((0, won.0) ∷ []) is won.2 (stays_reading v (Some won.0) v.refused (won.0 ∷ v.turns)))
      (λ n. moves me me' (Reader v) (Reader (record v { refused = v.refused + 1 })) [] [] is ((kind v is).1 n) (stays_reading v v.held (v.refused + 1) v.turns))

  raising : (step : Step (LogRec Run)) (v : WritingIn Run) → GoesOnBy (raises step) (λ me. me ≡ (Writer v, []))
  raising step v cell s rule me me' found seat is kind = moves me me' (Writer v) (Writer (record v { raised = v.raised + 1 })) [] [] is (kind v is) (stays_writing v v.held v.refused (v.raised + 1))

  -- where an end has the log, that agreed with both ends as it was found
  found_by_writer : (cell : CellRec Run) (s : CellState Run) (c : IsCell cell.run cell.number s) (me : SeatIn Run) (end : WriteRec Run) (refused raised : ℕ) → HasSeat s me.0 → (has : WriterHas end refused raised me) → Agrees has.found has.view c.r
  found_by_writer cell s c me end refused raised seat has =
      let at = ap (λ (l : List (ViewIn Run)). get_elem? l seat.0) (sym c.views) ∙ seat.1 ∙ ap (λ (m : SeatIn Run). some m.0) has.me_is in
      let here = writer_seat c.stage c.w c.r seat.0 has.view at in
      (is_writers c.word c.home has.view c.r has.found (subst (λ (w : WritingIn Run). Fits c.word c.home w c.r) here.2 c.fits) has.held).2

  found_by_reader : (cell : CellRec Run) (s : CellState Run) (c : IsCell cell.run cell.number s) (me : SeatIn Run) (end : ReadRec Run) (refused : ℕ) (turns : List (LogRec Run)) → HasSeat s me.0 → (has : ReaderHas end refused turns me) → Agrees has.found c.w has.view
  found_by_reader cell s c me end refused turns seat has =
      let at = ap (λ (l : List (ViewIn Run)). get_elem? l seat.0) (sym c.views) ∙ seat.1 ∙ ap (λ (m : SeatIn Run). some m.0) has.me_is in
      let here = reader_seat c.stage c.w c.r seat.0 has.view at in
      (is_readers c.word c.home c.w has.view has.found (subst (λ (r : ReadingIn Run). Fits c.word c.home c.w r) here.2 c.fits) has.held).2

  writing : (step : Step (LogRec Run)) (end : WriteRec Run) (refused raised : ℕ) → GoesOnBy (gives_written step) (WriterHas end refused raised)
  writing step end refused raised cell s rule me me' found seat has kind =
      let v = has.view in
      let log = has.log in
      let before = (found_by_writer cell s rule me end refused raised seat has).writes in
      moves me me' (Writer v) (Writer (record v { published = log.published; cause = log.cause; held = None })) ((0, log) ∷ []) [] has.me_is (kind v log has.me_is) record {
        run = refl;
        number = refl;
        published = omega (arith, before.published, has.follows.published);
        closed = λ h.
            let closed = sym (ap is_some before.cause) ∙ h in
            ((has.follows.closed closed).published ∙ sym before.published, has.follows.cause closed ∙ sym before.cause);
      }

  taking : (step : Step (LogRec Run)) (end : ReadRec Run) (refused : ℕ) (turns : List (LogRec Run)) → GoesOnBy (gives_taken step) (HasTaken end refused turns)
  taking step end refused turns cell s rule me me' found seat took kind =
      let has = took.0 in
      let v = has.view in
      let log = has.log in
      let before = (found_by_reader cell s rule me end refused turns seat has).reads in
      moves me me' (Reader v) (Reader (record v { got = log.published; held = None })) ((0, log) ∷ []) [] has.me_is (kind v log has.me_is) record {
        run = refl;
        number = refl;
        got = omega (arith, before.published, has.same.published);
        shut = λ h. (has.same.published ∙ (before.shut h).published, h);
      }

  shutting : (step : Step (LogRec Run)) (end : ReadRec Run) (refused : ℕ) (turns : List (LogRec Run)) → GoesOnBy (gives_shut step) (HasTaken end refused turns)
  shutting step end refused turns cell s rule me me' found seat took kind =
      let has = took.0 in
      let v = has.view in
      let log = has.log in
      let before = (found_by_reader cell s rule me end refused turns seat has).reads in
      moves me me' (Reader v) (Reader (record v { got = log.published; shut = true; held = None })) ((0, log) ∷ []) [] has.me_is (kind v log has.me_is) record {
        run = refl;
        number = refl;
        got = omega (arith, before.published, has.same.published);
        shut = λ h. (has.same.published ∙ (before.shut h).published, refl);
      }

pub steps_go_on : (Run : Type 0) → StepsGoOn Run
steps_go_on Run = record {
  claim_to_write = claims_writing;
  claim_to_read = claims_reading;
  give_written = writing;
  give_taken = taking;
  give_shut = shutting;
  raise = raising;
}
