-- What an end has after each step of a turn.
use Rattle.std.proofs.Common.{◌≡◌, ◌≢◌, ℕ, ◌+◌, ◌≤◌, List, [], ◌∷◌, ◌++◌, sym, refl, ap, ◌∙◌, subst, arith, le_refl, le_trans, Bool, true, false, ◌||◌, true≢false, is_some, IsSome, Option, Some, None, Result, Ok, Err, OnOk, OnErr}
use Rattle.atomic_table.specs.Table.{rest}
use Rattle.xs_base.specs.Numbers.{Slot}
use Rattle.xs_base.specs.declared.entry.Entry.{Entry}
use Rattle.link_logs.specs.declared.answers.Cause.{Cause}
use Rattle.link_logs.specs.declared.answers.Got.{Got}
use Rattle.link_logs.specs.declared.answers.Got.TheVariants.{Entries, Nothing, Closed}
use Rattle.link_logs.specs.Logs.{LogRec, WriteRec, ReadRec, is_closed, Writes, Reads, Finds, emptied, looked}
use Rattle.log_cells.specs.declared.view.View.TheVariants.{Writer, Reader}
use Rattle.log_cells.specs.Rule.{writing_of, reading_of, refused_of, raised_of, turns_of}
use Rattle.log_cells.specs.Ends.{EndsAt, LooksAt}
use Rattle.log_cells.specs.Plays.{SeatIn, writer_at, reader_at, logs_in, WriterClaims, ReaderClaims, gives_written, gives_taken, gives_shut, Follows, SameToWriter, WriterHas, ReaderHas, HasClaimed, HasTaken}
use Rattle.log_cells.proofs.Kept.{by_word, a_step, log_or}

module _ {Run : Type 0} (refused raised found : ℕ) (m : SeatIn Run) (end : WriteRec Run) (k : WriterClaims (writing_of end refused raised) found m) where
  pub writer_won : found ≡ 0 → WriterHas end (refused_of m.0) (raised_of m.0) m
  writer_won z = let t = k.0 z in record {
    view = record (writing_of end refused raised) { held = Some t.0 };
    found = t.0;
    log = t.0;
    me_is = t.2;
    held = refl;
    refused_is = sym (ap (λ (x : SeatIn Run). refused_of x.0) t.2);
    raised_is = sym (ap (λ (x : SeatIn Run). raised_of x.0) t.2);
    run = refl;
    number = refl;
    writes = t.1;
    follows = record { run = refl; number = refl; base = refl; published = le_refl t.0.published; closed = λ h. record { published = refl; closed = h }; cause = λ h. refl };
  }

  pub writer_won_once : found ≡ 0 → refused_of m.0 ≡ refused
  writer_won_once z = ap (λ (x : SeatIn Run). refused_of x.0) (k.0 z).2

  pub writer_lost_once : found ≢ 0 → refused_of m.0 ≡ refused + 1
  writer_lost_once n = ap (λ (x : SeatIn Run). refused_of x.0) (k.1 n)

  -- a claim raises no news
  pub raised_before : raised_of m.0 ≡ raised
  raised_before = by_word found (λ z. ap (λ (x : SeatIn Run). raised_of x.0) (k.0 z).2) (λ n. ap (λ (x : SeatIn Run). raised_of x.0) (k.1 n))

  pub writer_lost : found ≢ 0 → m ≡ writer_at end (refused_of m.0) (raised_of m.0)
  writer_lost n = k.1 n ∙ (λ i. writer_at end (sym (writer_lost_once n) i) (sym raised_before i))

module _ {Run : Type 0} (refused : ℕ) (turns : List (LogRec Run)) (found : ℕ) (m : SeatIn Run) (end : ReadRec Run) (k : ReaderClaims (reading_of end refused turns) found m) where
  pub reader_won : found ≡ 0 → HasClaimed end (refused_of m.0) (turns_of m.0) m
  reader_won z = let t = k.0 z in (
    record {
      view = record (reading_of end refused turns) { held = Some t.0; turns = t.0 ∷ turns };
      found = t.0;
      log = t.0;
      me_is = t.2;
      held = refl;
      refused_is = sym (ap (λ (x : SeatIn Run). refused_of x.0) t.2);
      turns_are = sym (ap (λ (x : SeatIn Run). turns_of x.0) t.2);
      run = refl;
      number = refl;
      reads = record { run = t.1.run; number = t.1.number; base = t.1.base; published = t.1.published };
      shut = t.1.shut;
      same = record { run = refl; number = refl; published = refl; cause = refl };
    },
    refl,
  )

  pub reader_won_once : found ≡ 0 → refused_of m.0 ≡ refused
  reader_won_once z = ap (λ (x : SeatIn Run). refused_of x.0) (k.0 z).2

  pub reader_lost_once : found ≢ 0 → refused_of m.0 ≡ refused + 1
  reader_lost_once n = ap (λ (x : SeatIn Run). refused_of x.0) (k.1 n)

  no_turn : found ≢ 0 → turns_of m.0 ≡ turns
  no_turn n = ap (λ (x : SeatIn Run). turns_of x.0) (k.1 n)

  pub reader_lost : found ≢ 0 → m ≡ reader_at end (refused_of m.0) (turns_of m.0)
  reader_lost n = k.1 n ∙ (λ i. reader_at end (sym (reader_lost_once n) i) (sym (no_turn n) i))

  -- the log that it has is that of one more turn
  pub one_more_turn : turns_of m.0 ≡ logs_in m.1 ++ turns
  one_more_turn = by_word found
      (λ z. let is = (k.0 z).2 in ap (λ (x : SeatIn Run). turns_of x.0) is ∙ sym (ap (λ (x : SeatIn Run). logs_in x.1 ++ turns) is))
      (λ n. no_turn n ∙ sym (ap (λ (x : SeatIn Run). logs_in x.1 ++ turns) (k.1 n)))

module _ {Run : Type 0} (refused : ℕ) (m m' : SeatIn Run) where
  pub gave_written : (raised : ℕ) (end : WriteRec Run) → WriterHas end refused raised m → gives_written a_step m 0 m' → m' ≡ writer_at end refused raised
  gave_written raised end has gave = gave has.view has.log has.me_is
      ∙ (λ i. (Writer (record { run = has.run i; number = has.number i; published = sym has.writes.published i; cause = sym has.writes.cause i; held = None; refused = has.refused_is i; raised = has.raised_is i }), []))

  pub gave_taken : (end : ReadRec Run) (turns : List (LogRec Run)) → HasTaken end refused turns m → end.shut ≡ false → gives_taken a_step m 0 m' → m' ≡ reader_at end refused turns
  gave_taken end turns took is_open gave = let has = took.0 in gave has.view has.log has.me_is
      ∙ (λ i. (Reader (record { run = has.run i; number = has.number i; got = sym took.1 i; shut = (took.2 is_open ∙ sym is_open) i; held = None; refused = has.refused_is i; turns = has.turns_are i }), []))

  pub gave_shut : (end : ReadRec Run) (turns : List (LogRec Run)) → HasTaken end refused turns m → end.shut ≡ true → gives_shut a_step m 0 m' → m' ≡ reader_at end refused turns
  gave_shut end turns took shut gave = let has = took.0 in gave has.view has.log has.me_is
      ∙ (λ i. (Reader (record { run = has.run i; number = has.number i; got = sym took.1 i; shut = sym shut i; held = None; refused = has.refused_is i; turns = has.turns_are i }), []))

slot_of : {Run : Type 0} (carried : List (ℕ × LogRec Run)) (log : LogRec Run) → carried ≡ (0, log) ∷ [] → carried ≡ (0, log) ∷ rest carried
slot_of carried log e = e ∙ (λ i. (0, log) ∷ rest (sym e i))

module _ {Run : Type 0} {refused raised : ℕ} {m : SeatIn Run} where
  pub writer_slot : {end : WriteRec Run} → WriterHas end refused raised m → (log : LogRec Run) × (m.1 ≡ (0, log) ∷ rest m.1)
  writer_slot has = (has.log, slot_of m.1 has.log (ap (λ (x : SeatIn Run). x.1) has.me_is))

  pub writer_log : {end : WriteRec Run} (has : WriterHas end refused raised m) (log : LogRec Run) → m.1 ≡ (0, log) ∷ rest m.1 → has.log ≡ log
  writer_log has log e = ap (log_or has.log) (sym (ap (λ (x : SeatIn Run). x.1) has.me_is) ∙ e)

  -- the log was written, by an end that knows what it has now
  pub wrote : {end : WriteRec Run} (has : WriterHas end refused raised m) (log log' : LogRec Run) (end' : WriteRec Run) → m.1 ≡ (0, log) ∷ rest m.1
      → end'.run ≡ end.run → end'.number ≡ end.number → Writes end' log' → Follows log log' → WriterHas end' refused raised (m.0, (0, log') ∷ rest m.1)
  wrote has log log' end' at run number writes went =
      let here = writer_log has log at in
      let before : Follows has.found log = subst (λ (l : LogRec Run). Follows has.found l) here has.follows in
      record {
        view = has.view;
        found = has.found;
        log = log';
        me_is = λ i. ((has.me_is i).0, (0, log') ∷ rest (has.me_is i).1);
        held = has.held;
        refused_is = has.refused_is;
        raised_is = has.raised_is;
        run = has.run ∙ sym run;
        number = has.number ∙ sym number;
        writes = writes;
        follows = record {
          run = went.run ∙ before.run;
          number = went.number ∙ before.number;
          base = went.base ∙ before.base;
          published = le_trans before.published went.published;
          closed = λ h.
              let here = before.closed h in
              let there = went.closed here.closed in
              record { published = there.published ∙ here.published; closed = there.closed };
          cause = λ h. went.cause (before.closed h).closed ∙ before.cause h;
        };
      }

module _ {Run : Type 0} {refused : ℕ} {turns : List (LogRec Run)} {m : SeatIn Run} where
  pub reader_slot : {end : ReadRec Run} → ReaderHas end refused turns m → (log : LogRec Run) × (m.1 ≡ (0, log) ∷ rest m.1)
  reader_slot has = (has.log, slot_of m.1 has.log (ap (λ (x : SeatIn Run). x.1) has.me_is))

  pub reader_log : {end : ReadRec Run} (has : ReaderHas end refused turns m) (log : LogRec Run) → m.1 ≡ (0, log) ∷ rest m.1 → has.log ≡ log
  reader_log has log e = ap (log_or has.log) (sym (ap (λ (x : SeatIn Run). x.1) has.me_is) ∙ e)

  pub reader_logs : {end : ReadRec Run} (has : ReaderHas end refused turns m) (log : LogRec Run) → m.1 ≡ (0, log) ∷ rest m.1 → logs_in m.1 ≡ log ∷ []
  reader_logs has log e = ap (λ (x : SeatIn Run). logs_in x.1) has.me_is ∙ ap (λ (l : LogRec Run). l ∷ []) (reader_log has log e)

  pub reader_ends : (end : ReadRec Run) (has : ReaderHas end refused turns m) (log : LogRec Run) → m.1 ≡ (0, log) ∷ rest m.1 → end.shut ≡ true → EndsAt end.got log
  reader_ends end has log e = subst (λ (l : LogRec Run). end.shut ≡ true → EndsAt end.got l) (reader_log has log e) has.shut

-- what a log and its end have after the end has written
pub record WentOn {Run : Type 0} (log log' : LogRec Run) (end end' : WriteRec Run) : Type 0 where
  pub run : end'.run ≡ end.run
  pub number : end'.number ≡ end.number
  pub writes : Writes end' log'
  pub follows : Follows log log'

module _ {Run : Type 0} (log log' : LogRec Run) where
  still_open : log.cause ≡ None → IsSome log.cause → EndsAt log.published log'
  still_open is_open closed = absurd (true≢false (sym closed ∙ ap is_some is_open))

  no_cause_yet : log.cause ≡ None → IsSome log.cause → log'.cause ≡ log.cause
  no_cause_yet is_open closed = absurd (true≢false (sym closed ∙ ap is_some is_open))

  pub appended : {E : Type 0} (end end' : WriteRec Run) (upto : Slot) (more : List Entry) (x : Result (Unit {0}) E) → Writes end log → log.cause ≡ None → log.published ≤ upto
      → OnOk x (log' ≡ record log { published = upto; entries = more }) → OnOk x (end' ≡ record end { published = upto }) → OnErr x (log' ≡ log) → OnErr x (end' ≡ end) → WentOn log log' end end'
  appended end end' upto more (Ok u) writes is_open on is_log is_end err err_end = record {
    run = ap (λ (w : WriteRec Run). w.run) is_end;
    number = ap (λ (w : WriteRec Run). w.number) is_end;
    writes = record {
      run = ap (λ (w : WriteRec Run). w.run) is_end ∙ writes.run ∙ sym (ap (λ (l : LogRec Run). l.run) is_log);
      number = ap (λ (w : WriteRec Run). w.number) is_end ∙ writes.number ∙ sym (ap (λ (l : LogRec Run). l.number) is_log);
      published = ap (λ (w : WriteRec Run). w.published) is_end ∙ sym (ap (λ (l : LogRec Run). l.published) is_log);
      cause = ap (λ (w : WriteRec Run). w.cause) is_end ∙ writes.cause ∙ sym (ap (λ (l : LogRec Run). l.cause) is_log);
    };
    follows = record {
      run = ap (λ (l : LogRec Run). l.run) is_log;
      number = ap (λ (l : LogRec Run). l.number) is_log;
      base = ap (λ (l : LogRec Run). l.base) is_log;
      published = omega (arith, on, ap (λ (l : LogRec Run). l.published) is_log);
      closed = still_open is_open;
      cause = no_cause_yet is_open;
    };
  }
  appended end end' upto more (Err e) writes is_open on is_log is_end err err_end = record {
    run = ap (λ (w : WriteRec Run). w.run) err_end;
    number = ap (λ (w : WriteRec Run). w.number) err_end;
    writes = record {
      run = ap (λ (w : WriteRec Run). w.run) err_end ∙ writes.run ∙ sym (ap (λ (l : LogRec Run). l.run) err);
      number = ap (λ (w : WriteRec Run). w.number) err_end ∙ writes.number ∙ sym (ap (λ (l : LogRec Run). l.number) err);
      published = ap (λ (w : WriteRec Run). w.published) err_end ∙ writes.published ∙ sym (ap (λ (l : LogRec Run). l.published) err);
      cause = ap (λ (w : WriteRec Run). w.cause) err_end ∙ writes.cause ∙ sym (ap (λ (l : LogRec Run). l.cause) err);
    };
    follows = record {
      run = ap (λ (l : LogRec Run). l.run) err;
      number = ap (λ (l : LogRec Run). l.number) err;
      base = ap (λ (l : LogRec Run). l.base) err;
      published = omega (arith, ap (λ (l : LogRec Run). l.published) err);
      closed = λ h. record { published = ap (λ (l : LogRec Run). l.published) err; closed = ap (λ (l : LogRec Run). is_some l.cause) err ∙ h };
      cause = λ h. ap (λ (l : LogRec Run). l.cause) err;
    };
  }

  pub shut : (end end' : WriteRec Run) (cause : Option Cause) → Writes end log → log.cause ≡ None → log' ≡ record log { cause = cause } → end' ≡ record end { cause = cause } → WentOn log log' end end'
  shut end end' cause writes is_open is_log is_end = record {
    run = ap (λ (w : WriteRec Run). w.run) is_end;
    number = ap (λ (w : WriteRec Run). w.number) is_end;
    writes = record {
      run = ap (λ (w : WriteRec Run). w.run) is_end ∙ writes.run ∙ sym (ap (λ (l : LogRec Run). l.run) is_log);
      number = ap (λ (w : WriteRec Run). w.number) is_end ∙ writes.number ∙ sym (ap (λ (l : LogRec Run). l.number) is_log);
      published = ap (λ (w : WriteRec Run). w.published) is_end ∙ writes.published ∙ sym (ap (λ (l : LogRec Run). l.published) is_log);
      cause = ap (λ (w : WriteRec Run). w.cause) is_end ∙ sym (ap (λ (l : LogRec Run). l.cause) is_log);
    };
    follows = record {
      run = ap (λ (l : LogRec Run). l.run) is_log;
      number = ap (λ (l : LogRec Run). l.number) is_log;
      base = ap (λ (l : LogRec Run). l.base) is_log;
      published = omega (arith, ap (λ (l : LogRec Run). l.published) is_log);
      closed = still_open is_open;
      cause = no_cause_yet is_open;
    };
  }

module _ {Run : Type 0} (log : LogRec Run) (slot : Slot) (at : Slot → List Entry) where
  -- a log that ends where an end has read gives the close
  ends_closed : (got : Got) → Finds at log slot got → EndsAt slot log → got ≡ Closed
  ends_closed (Entries from to batch) finds ends = absurd (omega (arith, finds.0, ends.published))
  ends_closed (Nothing published) finds ends = absurd (true≢false (sym ends.closed ∙ ap is_some finds.1))
  ends_closed Closed finds ends = refl

  -- an end that had found the log closed, or finds it closed now
  found_closed : (was : Bool) (got : Got) → (was ≡ true → EndsAt slot log) → Finds at log slot got → was || is_closed got ≡ true → IsSome log.cause
  found_closed true got before finds e = (before refl).closed
  found_closed false (Entries from to batch) before finds e = absurd (true≢false (sym e))
  found_closed false (Nothing published) before finds e = absurd (true≢false (sym e))
  found_closed false Closed before finds e = finds.1

neither : (a b : Bool) → a || b ≡ false → a ≡ false
neither true b e = e
neither false b e = refl

module _ {Run : Type 0} (log : LogRec Run) (end end' : ReadRec Run) (at : Slot → List Entry) (got : Got) (reads : Reads end log) (ends : end.shut ≡ true → EndsAt end.got log)
    (finds : Finds at log end.got got) (is_end : end' ≡ looked log got end) where
  -- the log that is looked at is the one that the seat has
  pub looks_at : (logs : List (LogRec Run)) → logs ≡ log ∷ [] → (look : LooksAt at end got end') × (logs ≡ look.log ∷ [])
  looks_at logs has = (record { log = log; reads = reads; shut = ends; finds = finds; end = is_end }, has)

  pub stays_shut : end.shut ≡ true → got ≡ Closed
  stays_shut h = ends_closed log end.got at got finds (ends h)

  -- the log after a look
  pub takes_all : (log' : LogRec Run) (refused : ℕ) (turns : List (LogRec Run)) (m : SeatIn Run) → HasClaimed end refused turns m → m.1 ≡ (0, log) ∷ rest m.1 → log' ≡ emptied log → HasTaken end' refused turns (m.0, (0, log') ∷ rest m.1)
  takes_all log' refused turns m claimed here is_log =
      let has = claimed.0 in
      let was : SameToWriter has.found log = subst (λ (l : LogRec Run). SameToWriter has.found l) (reader_log has log here) has.same in
      let log_run : log'.run ≡ log.run = ap (λ (l : LogRec Run). l.run) is_log in
      let log_number : log'.number ≡ log.number = ap (λ (l : LogRec Run). l.number) is_log in
      let base : log'.base ≡ log.published = ap (λ (l : LogRec Run). l.base) is_log in
      let published : log'.published ≡ log.published = ap (λ (l : LogRec Run). l.published) is_log in
      let cause : log'.cause ≡ log.cause = ap (λ (l : LogRec Run). l.cause) is_log in
      let run : end'.run ≡ end.run = ap (λ (r : ReadRec Run). r.run) is_end in
      let number : end'.number ≡ end.number = ap (λ (r : ReadRec Run). r.number) is_end in
      let shut : end'.shut ≡ end.shut || is_closed got = ap (λ (r : ReadRec Run). r.shut) is_end in
      let all : end'.got ≡ log'.published = ap (λ (r : ReadRec Run). r.got) is_end ∙ sym published in (
        record {
          view = has.view;
          found = has.found;
          log = log';
          me_is = λ i. ((has.me_is i).0, (0, log') ∷ rest (has.me_is i).1);
          held = has.held;
          refused_is = has.refused_is;
          turns_are = has.turns_are;
          run = has.run ∙ sym run;
          number = has.number ∙ sym number;
          reads = record {
            run = run ∙ reads.run ∙ sym log_run;
            number = number ∙ reads.number ∙ sym log_number;
            base = base ∙ sym published ∙ sym all;
            published = omega (arith, all);
          };
          shut = λ h. record { published = sym all; closed = ap (λ (c : Option Cause). is_some c) cause ∙ found_closed log end.got at end.shut got ends finds (sym shut ∙ h) };
          same = record { run = log_run ∙ was.run; number = log_number ∙ was.number; published = published ∙ was.published; cause = cause ∙ was.cause };
        },
        all,
        (λ is_open. claimed.1 ∙ neither end.shut (is_closed got) (sym shut ∙ is_open)),
      )
