-- The kinds of step on a cell's words, each of which keeps the rule.
use Rattle.std.proofs.Common.{◌≡◌, ◌≢◌, ℕ, zero, suc, ◌+◌, ◌%◌, ◌^◌, eqb, List, [], ◌∷◌, ◌++◌, map, set, get_or, sym, refl, ap, ◌∙◌, subst, arith, true, false, true≢false, is_some, IsSome, Some, None}
use Rattle.std.specs.List.{AllByRecursion}
use Rattle.std.proofs.Math.Nat.{mod-add-mod}
use mathlib.Core.Option.{some, none, some-injective, some-ne-none}
use mathlib.Core.Option as maybe
use lib.ListN.{get_elem?}
use prog.Atomic.{either}
use Rattle.atomic_table.specs.Table.{State, Step, step, Act, keeps, takes, gives, stepped, carried_after, Valid, Allows, Splits, Joins, opening, Final, Seen}
use Rattle.atomic_table.proofs.Lists.{exchanged}
use Rattle.xs_base.specs.Numbers.{LinkNumber}
use Rattle.link_logs.specs.Logs.{LogRec, WriteRec, ReadRec, Writes}
use Rattle.log_cells.specs.declared.view.View.TheVariants.{Whole, Writer, Reader, Joined, Spent}
use Rattle.log_cells.specs.Rule.{WritingIn, ReadingIn, ViewIn, free, writers, readers, made, parted, joined, ReadsFrom, Continues, Agrees, Fits, IsCell, seats_at, new_view}
use Rattle.log_cells.specs.Plays.{SeatIn, WriterClaims, ReaderClaims, claims_as_writer, claims_as_reader, gives_written, gives_taken, gives_shut, raises, writer_part, reader_part, joined_view, Follows, SameToWriter, WriterHas, HasTaken, IsJoined, AgreesWith}
use Rattle.log_cells.proofs.Seats.{writing_or, reading_or, writer_seat, reader_seat, whole_seat, joined_seat, is_free, is_left, is_writers, is_readers}

abbrev StateIn : Type 0 → Type 0
StateIn Run = State (LogRec Run) (ViewIn Run)

-- the kinds of step do not tell steps apart
abbrev pub a_step : {Run : Type 0} → Step (LogRec Run)
a_step = step 0 0 0 0 none

pub by_word : {Z : Type 0} (found : ℕ) → (found ≡ 0 → Z) → (found ≢ 0 → Z) → Z
by_word zero a b = a refl
by_word (suc n) a b = b (λ h. omega (arith, h))

abbrev pub log_or : {Run : Type 0} → LogRec Run → List (ℕ × LogRec Run) → LogRec Run
log_or d [] = d
log_or d (x ∷ xs) = x.1

-- a count in a word
abbrev in_word : ℕ → ℕ
in_word n = n % 2 ^ 64

raised_by : {Run : Type 0} {w v : WritingIn Run} → w ≡ v → in_word w.raised ≡ in_word v.raised
raised_by same = ap (λ x. in_word x.raised) same

-- what a log goes on from
module _ {Run : Type 0} where
  was_itself : (log : LogRec Run) → Continues log log
  was_itself log = record { run = refl; number = refl; published = omega arith; closed = λ h. (refl, refl) }

  followed : (log log' : LogRec Run) → Follows log log' → (before : LogRec Run) → Continues log before → Continues log' before
  followed log log' went before was = record {
    run = went.run ∙ was.run;
    number = went.number ∙ was.number;
    published = omega (arith, was.published, went.published);
    closed = λ h.
        let then = was.closed h in
        let closed = ap is_some then.1 ∙ h in
        ((went.closed closed).published ∙ then.0, went.cause closed ∙ then.1);
  }

  stayed : (log log' : LogRec Run) → SameToWriter log log' → (before : LogRec Run) → Continues log before → Continues log' before
  stayed log log' same before was = record {
    run = same.run ∙ was.run;
    number = same.number ∙ was.number;
    published = omega (arith, was.published, same.published);
    closed = λ h. let then = was.closed h in (same.published ∙ then.0, same.cause ∙ then.1);
  }

  all_went_on : (log log' : LogRec Run) (turns : List (LogRec Run)) → ((before : LogRec Run) → Continues log before → Continues log' before)
      → AllByRecursion (Continues log) turns → AllByRecursion (Continues log') turns
  all_went_on log log' [] on all = tt
  all_went_on log log' (before ∷ turns) on all = (on before all.0, all_went_on log log' turns on all.1)

module _ {Run : Type 0} where
  -- a cell begins with its rule
  pub begins : (words : List ℕ) (logs : List (LogRec Run)) (log : LogRec Run) (end : WriteRec Run) → words ≡ 0 ∷ 0 ∷ [] → logs ≡ log ∷ [] → Writes end log → log.base ≡ 0 → IsCell end.run end.number (opening words logs (new_view end))
  begins words logs log end are is writes low = record {
    word = 0;
    news = 0;
    home = some log;
    stage = made;
    w = record { run = end.run; number = end.number; published = end.published; cause = end.cause; held = None; refused = 0; raised = 0 };
    r = record { run = end.run; number = end.number; got = 0; shut = false; held = None; refused = 0; turns = [] };
    words = are;
    homes = ap (map some) is;
    views = refl;
    fits = record {
      turn = free;
      log = log;
      word_is = refl;
      home_is = refl;
      writer_has = refl;
      reader_has = refl;
      agrees = record {
        writes = record { run = writes.run; number = writes.number; published = writes.published; cause = writes.cause };
        reads = record { run = writes.run; number = writes.number; base = low; published = omega arith; shut = λ h. absurd (true≢false (sym h)) };
        turns = tt;
      };
    };
    of_run = refl;
    of_number = refl;
    raised = refl;
  }

  -- the reader's seat, where the writer's has become another
  reader_beside : (w : WritingIn Run) (r r' : ReadingIn Run) (both : ViewIn Run) (other : ℕ) → other ≢ 0 → get_elem? (both ∷ Reader r ∷ []) other ≡ some (Reader r') → (other ≡ 1) × (r ≡ r')
  reader_beside w r r' both zero n e = absurd (n refl)
  reader_beside w r r' both (suc zero) n e = (refl, ap (reading_or r) (some-injective (Reader r) (Reader r') e))
  reader_beside w r r' both (suc (suc k)) n e = absurd (some-ne-none (Reader r') (sym e))

-- of a cell of this run and this link
module _ {Run : Type 0} {its_run : Run} {its_link : LinkNumber} where
  -- a seat that is another may do what that may
  moved : (slots id word : ℕ) (me m : SeatIn Run) (f : ℕ → ℕ) (then : SeatIn Run → ℕ → SeatIn Run → Type 0) → me ≡ m → Allows (IsCell its_run its_link) slots id m word f (then m) → Allows (IsCell its_run its_link) slots id me word f (then me)
  moved slots id word me m f then e h = subst (λ (x : SeatIn Run). Allows (IsCell its_run its_link) slots id x word f (then x)) (sym e) h

  module _ (s : StateIn Run) (c : IsCell its_run its_link s) (id : ℕ) where
    word_is : get_or s.words 0 0 ≡ c.word
    word_is = ap (λ (l : List ℕ). get_or l 0 0) c.words

    seat_is : (x : ViewIn Run) → get_elem? s.views id ≡ some x → get_elem? (seats_at c.stage c.w c.r) id ≡ some x
    seat_is x at = ap (λ (l : List (ViewIn Run)). get_elem? l id) (sym c.views) ∙ at

    -- the writer's view becomes w', and the reader's stays
    writer_steps : (v w' : WritingIn Run) (word' : ℕ) (homes' : List (maybe.Option (LogRec Run))) (home' : maybe.Option (LogRec Run)) → get_elem? s.views id ≡ some (Writer v) → homes' ≡ home' ∷ [] → w'.raised ≡ v.raised
        → Fits word' home' w' c.r
        → IsCell its_run its_link record { words = set s.words 0 word'; homes = homes'; views = set s.views id (Writer w') }
    writer_steps v w' word' homes' home' at homes same fits = let here = writer_seat c.stage c.w c.r id v (seat_is (Writer v) at) in record {
      word = word';
      news = c.news;
      home = home';
      stage = parted;
      w = w';
      r = c.r;
      words = ap (λ (l : List ℕ). set l 0 word') c.words;
      homes = homes;
      views = (λ i. set (c.views i) (here.1 i) (Writer w')) ∙ (λ i. set (seats_at (here.0 i) c.w c.r) 0 (Writer w'));
      fits = fits;
      of_run = c.of_run;
      of_number = c.of_number;
      raised = c.raised ∙ raised_by here.2 ∙ ap in_word (sym same);
    }

    reader_steps : (v r' : ReadingIn Run) (word' : ℕ) (homes' : List (maybe.Option (LogRec Run))) (home' : maybe.Option (LogRec Run)) → get_elem? s.views id ≡ some (Reader v) → homes' ≡ home' ∷ [] → Fits word' home' c.w r'
        → IsCell its_run its_link record { words = set s.words 0 word'; homes = homes'; views = set s.views id (Reader r') }
    reader_steps v r' word' homes' home' at homes fits = let here = reader_seat c.stage c.w c.r id v (seat_is (Reader v) at) in record {
      word = word';
      news = c.news;
      home = home';
      stage = parted;
      w = c.w;
      r = r';
      words = ap (λ (l : List ℕ). set l 0 word') c.words;
      homes = homes;
      views = (λ i. set (c.views i) (here.1 i) (Reader r')) ∙ (λ i. set (seats_at (here.0 i) c.w c.r) 1 (Reader r'));
      fits = fits;
      of_run = fits.agrees.reads.run ∙ sym fits.agrees.writes.run ∙ c.fits.agrees.writes.run ∙ sym c.fits.agrees.reads.run ∙ c.of_run;
      of_number = fits.agrees.reads.number ∙ sym fits.agrees.writes.number ∙ c.fits.agrees.writes.number ∙ sym c.fits.agrees.reads.number ∙ c.of_number;
      raised = c.raised;
    }

    fits_writer : (v : WritingIn Run) → get_elem? s.views id ≡ some (Writer v) → Fits c.word c.home v c.r
    fits_writer v at = let here = writer_seat c.stage c.w c.r id v (seat_is (Writer v) at) in subst (λ (w : WritingIn Run). Fits c.word c.home w c.r) here.2 c.fits

    fits_reader : (v : ReadingIn Run) → get_elem? s.views id ≡ some (Reader v) → Fits c.word c.home c.w v
    fits_reader v at = let here = reader_seat c.stage c.w c.r id v (seat_is (Reader v) at) in subst (λ (r : ReadingIn Run). Fits c.word c.home c.w r) here.2 c.fits

  -- a claim by the writer
  writer_hits : (slots id : ℕ) (v : WritingIn Run) (s : StateIn Run) (c : IsCell its_run its_link s) → get_elem? s.views id ≡ some (Writer v) → get_or s.words 0 0 ≡ 0
      → (w : ViewIn Run) × (a : Act (LogRec Run)) × Valid s.homes [] a × IsCell its_run its_link (stepped s 0 1 id [] w a) × claims_as_writer a_step (Writer v, []) (get_or s.words 0 0) (w, carried_after [] a)
  writer_hits slots id v s c at zero_there =
      let home = is_free c.word c.home v c.r (fits_writer s c id v at) (sym (word_is s c id) ∙ zero_there) in
      let w' : WritingIn Run = record v { held = Some home.log } in (
        Writer w',
        takes 0 home.log,
        ap (λ (l : List (maybe.Option (LogRec Run))). get_elem? l 0) c.homes ∙ ap some home.home_is,
        writer_steps s c id v w' 1 (set s.homes 0 none) none at (ap (λ (l : List (maybe.Option (LogRec Run))). set l 0 none) c.homes) refl record {
          turn = writers;
          log = home.log;
          word_is = refl;
          home_is = refl;
          writer_has = refl;
          reader_has = home.reader_has;
          agrees = record { writes = home.agrees.writes; reads = home.agrees.reads; turns = home.agrees.turns };
        },
        (λ v' e. subst (λ (u : WritingIn Run). WriterClaims u (get_or s.words 0 0) (Writer w', (0, home.log) ∷ [])) (ap (λ (m : SeatIn Run). writing_or v m.0) e)
            ((λ _. (home.log, home.agrees.writes, refl)), (λ n. absurd (n zero_there)))),
      )

  writer_misses : (slots id : ℕ) (v : WritingIn Run) (s : StateIn Run) (c : IsCell its_run its_link s) → get_elem? s.views id ≡ some (Writer v) → get_or s.words 0 0 ≢ 0
      → (w : ViewIn Run) × (a : Act (LogRec Run)) × Valid s.homes [] a × IsCell its_run its_link (stepped s 0 (get_or s.words 0 0) id [] w a) × claims_as_writer a_step (Writer v, []) (get_or s.words 0 0) (w, carried_after [] a)
  writer_misses slots id v s c at held_there =
      let f = fits_writer s c id v at in
      let w' : WritingIn Run = record v { refused = v.refused + 1 } in (
        Writer w',
        keeps,
        tt,
        writer_steps s c id v w' (get_or s.words 0 0) s.homes c.home at c.homes refl record {
          turn = f.turn;
          log = f.log;
          word_is = word_is s c id ∙ f.word_is;
          home_is = f.home_is;
          writer_has = f.writer_has;
          reader_has = f.reader_has;
          agrees = record { writes = f.agrees.writes; reads = f.agrees.reads; turns = f.agrees.turns };
        },
        (λ v' e. subst (λ (u : WritingIn Run). WriterClaims u (get_or s.words 0 0) (Writer w', [])) (ap (λ (m : SeatIn Run). writing_or v m.0) e)
            ((λ n. absurd (held_there n)), (λ _. refl))),
      )

  writer_claims_there : (slots id : ℕ) (v : WritingIn Run) → Allows (IsCell its_run its_link) slots id (Writer v, []) 0 (λ n. either (eqb n 0) 1 n) (claims_as_writer a_step (Writer v, []))
  writer_claims_there slots id v s c len at small =
      exchanged (get_or s.words 0 0) 0 1 (λ k. (w : ViewIn Run) × (a : Act (LogRec Run)) × Valid s.homes [] a × IsCell its_run its_link (stepped s 0 k id [] w a) × claims_as_writer a_step (Writer v, []) (get_or s.words 0 0) (w, carried_after [] a))
      (writer_hits slots id v s c at) (writer_misses slots id v s c at)

  -- a claim by the reader
  reader_hits : (slots id : ℕ) (v : ReadingIn Run) (s : StateIn Run) (c : IsCell its_run its_link s) → get_elem? s.views id ≡ some (Reader v) → get_or s.words 0 0 ≡ 0
      → (w : ViewIn Run) × (a : Act (LogRec Run)) × Valid s.homes [] a × IsCell its_run its_link (stepped s 0 2 id [] w a) × claims_as_reader a_step (Reader v, []) (get_or s.words 0 0) (w, carried_after [] a)
  reader_hits slots id v s c at zero_there =
      let home = is_free c.word c.home c.w v (fits_reader s c id v at) (sym (word_is s c id) ∙ zero_there) in
      let r' : ReadingIn Run = record v { held = Some home.log; turns = home.log ∷ v.turns } in (
        Reader r',
        takes 0 home.log,
        ap (λ (l : List (maybe.Option (LogRec Run))). get_elem? l 0) c.homes ∙ ap some home.home_is,
        reader_steps s c id v r' 2 (set s.homes 0 none) none at (ap (λ (l : List (maybe.Option (LogRec Run))). set l 0 none) c.homes) record {
          turn = readers;
          log = home.log;
          word_is = refl;
          home_is = refl;
          writer_has = home.writer_has;
          reader_has = refl;
          agrees = record { writes = home.agrees.writes; reads = record { run = home.agrees.reads.run; number = home.agrees.reads.number; base = home.agrees.reads.base; published = home.agrees.reads.published; shut = home.agrees.reads.shut }; turns = (was_itself home.log, home.agrees.turns) };
        },
        (λ v' e. subst (λ (u : ReadingIn Run). ReaderClaims u (get_or s.words 0 0) (Reader r', (0, home.log) ∷ [])) (ap (λ (m : SeatIn Run). reading_or v m.0) e)
            ((λ _. (home.log, home.agrees.reads, refl)), (λ n. absurd (n zero_there)))),
      )

  reader_misses : (slots id : ℕ) (v : ReadingIn Run) (s : StateIn Run) (c : IsCell its_run its_link s) → get_elem? s.views id ≡ some (Reader v) → get_or s.words 0 0 ≢ 0
      → (w : ViewIn Run) × (a : Act (LogRec Run)) × Valid s.homes [] a × IsCell its_run its_link (stepped s 0 (get_or s.words 0 0) id [] w a) × claims_as_reader a_step (Reader v, []) (get_or s.words 0 0) (w, carried_after [] a)
  reader_misses slots id v s c at held_there =
      let f = fits_reader s c id v at in
      let r' : ReadingIn Run = record v { refused = v.refused + 1 } in (
        Reader r',
        keeps,
        tt,
        reader_steps s c id v r' (get_or s.words 0 0) s.homes c.home at c.homes record {
          turn = f.turn;
          log = f.log;
          word_is = word_is s c id ∙ f.word_is;
          home_is = f.home_is;
          writer_has = f.writer_has;
          reader_has = f.reader_has;
          agrees = record { writes = f.agrees.writes; reads = record { run = f.agrees.reads.run; number = f.agrees.reads.number; base = f.agrees.reads.base; published = f.agrees.reads.published; shut = f.agrees.reads.shut }; turns = f.agrees.turns };
        },
        (λ v' e. subst (λ (u : ReadingIn Run). ReaderClaims u (get_or s.words 0 0) (Reader r', [])) (ap (λ (m : SeatIn Run). reading_or v m.0) e)
            ((λ n. absurd (held_there n)), (λ _. refl))),
      )

  reader_claims_there : (slots id : ℕ) (v : ReadingIn Run) → Allows (IsCell its_run its_link) slots id (Reader v, []) 0 (λ n. either (eqb n 0) 2 n) (claims_as_reader a_step (Reader v, []))
  reader_claims_there slots id v s c len at small =
      exchanged (get_or s.words 0 0) 0 2 (λ k. (w : ViewIn Run) × (a : Act (LogRec Run)) × Valid s.homes [] a × IsCell its_run its_link (stepped s 0 k id [] w a) × claims_as_reader a_step (Reader v, []) (get_or s.words 0 0) (w, carried_after [] a))
      (reader_hits slots id v s c at) (reader_misses slots id v s c at)

  -- the writer gives back a log that went on from the one that it found
  writer_gives_there : (slots id : ℕ) (v : WritingIn Run) (found log : LogRec Run) → v.held ≡ Some found → Follows found log
      → Allows (IsCell its_run its_link) slots id (Writer v, (0, log) ∷ []) 0 (λ _. 0) (λ _. gives_written a_step (Writer v, (0, log) ∷ []) 0)
  writer_gives_there slots id v found log held went s c len at small =
      let out = is_writers c.word c.home v c.r found (fits_writer s c id v at) held in
      let agrees = out.2 in
      let w' : WritingIn Run = record v { published = log.published; cause = log.cause; held = None } in (
        Writer w',
        gives,
        tt,
        writer_steps s c id v w' 0 (set s.homes 0 (some log)) (some log) at (ap (λ (l : List (maybe.Option (LogRec Run))). set l 0 (some log)) c.homes) refl record {
          turn = free;
          log = log;
          word_is = refl;
          home_is = refl;
          writer_has = refl;
          reader_has = out.1;
          agrees = record {
            writes = record { run = agrees.writes.run ∙ sym went.run; number = agrees.writes.number ∙ sym went.number; published = refl; cause = refl };
            reads = record {
              run = agrees.reads.run ∙ sym went.run;
              number = agrees.reads.number ∙ sym went.number;
              base = went.base ∙ agrees.reads.base;
              published = omega (arith, went.published, agrees.reads.published);
              shut = λ h.
                  let before = agrees.reads.shut h in
                  let after = went.closed before.closed in
                  record { published = after.published ∙ before.published; closed = after.closed };
            };
            turns = all_went_on found log c.r.turns (followed found log went) agrees.turns;
          };
        },
        (λ v' log' e.
            let is_view : v ≡ v' = ap (λ (m : SeatIn Run). writing_or v m.0) e in
            let is_log : log ≡ log' = ap (λ (m : SeatIn Run). log_or log m.1) e in
            λ i. (Writer (record (is_view i) { published = (is_log i).published; cause = (is_log i).cause; held = None }), [])),
      )

  -- the reader gives back a log that is the one that it found to the writer's eyes, with what it has taken
  reader_gives : (id : ℕ) (v r' : ReadingIn Run) (found log : LogRec Run) (s : StateIn Run) (c : IsCell its_run its_link s) → v.held ≡ Some found → SameToWriter found log → get_elem? s.views id ≡ some (Reader v) → r'.held ≡ None → r'.turns ≡ v.turns → ReadsFrom r' log
      → IsCell its_run its_link (stepped s 0 0 id ((0, log) ∷ []) (Reader r') gives)
  reader_gives id v r' found log s c held same at gone kept reads =
      let out = is_readers c.word c.home c.w v found (fits_reader s c id v at) held in
      let writes = out.2.writes in
      reader_steps s c id v r' 0 (set s.homes 0 (some log)) (some log) at (ap (λ (l : List (maybe.Option (LogRec Run))). set l 0 (some log)) c.homes) record {
        turn = free;
        log = log;
        word_is = refl;
        home_is = refl;
        writer_has = out.1;
        reader_has = gone;
        agrees = record {
          writes = record { run = writes.run ∙ sym same.run; number = writes.number ∙ sym same.number; published = writes.published ∙ sym same.published; cause = writes.cause ∙ sym same.cause };
          reads = reads;
          turns = subst (λ (t : List (LogRec Run)). AllByRecursion (Continues log) t) (sym kept) (all_went_on found log v.turns (stayed found log same) out.2.turns);
        };
      }

  reader_gives_taken_there : (slots id : ℕ) (v : ReadingIn Run) (found log : LogRec Run) → v.held ≡ Some found → SameToWriter found log → v.run ≡ log.run → v.number ≡ log.number → log.base ≡ log.published
      → v.shut ≡ false → Allows (IsCell its_run its_link) slots id (Reader v, (0, log) ∷ []) 0 (λ _. 0) (λ _. gives_taken a_step (Reader v, (0, log) ∷ []) 0)
  reader_gives_taken_there slots id v found log held same run number whole is_open s c len at small =
      let r' : ReadingIn Run = record v { got = log.published; held = None } in (
        Reader r',
        gives,
        tt,
        reader_gives id v r' found log s c held same at refl refl record { run = run; number = number; base = whole; published = omega arith; shut = λ h. absurd (true≢false (sym h ∙ is_open)) },
        (λ v' log' e.
            let is_view : v ≡ v' = ap (λ (m : SeatIn Run). reading_or v m.0) e in
            let is_log : log ≡ log' = ap (λ (m : SeatIn Run). log_or log m.1) e in
            λ i. (Reader (record (is_view i) { got = (is_log i).published; held = None }), [])),
      )

  reader_gives_shut_there : (slots id : ℕ) (v : ReadingIn Run) (found log : LogRec Run) → v.held ≡ Some found → SameToWriter found log → v.run ≡ log.run → v.number ≡ log.number → log.base ≡ log.published
      → IsSome log.cause → Allows (IsCell its_run its_link) slots id (Reader v, (0, log) ∷ []) 0 (λ _. 0) (λ _. gives_shut a_step (Reader v, (0, log) ∷ []) 0)
  reader_gives_shut_there slots id v found log held same run number whole closed s c len at small =
      let r' : ReadingIn Run = record v { got = log.published; shut = true; held = None } in (
        Reader r',
        gives,
        tt,
        reader_gives id v r' found log s c held same at refl refl record { run = run; number = number; base = whole; published = omega arith; shut = λ _. record { published = refl; closed = closed } },
        (λ v' log' e.
            let is_view : v ≡ v' = ap (λ (m : SeatIn Run). reading_or v m.0) e in
            let is_log : log ≡ log' = ap (λ (m : SeatIn Run). log_or log m.1) e in
            λ i. (Reader (record (is_view i) { got = (is_log i).published; shut = true; held = None }), [])),
      )

  pub writer_claims : (slots id : ℕ) (me : SeatIn Run) (v : WritingIn Run) → me ≡ (Writer v, []) → Allows (IsCell its_run its_link) slots id me 0 (λ n. either (eqb n 0) 1 n) (claims_as_writer a_step me)
  writer_claims slots id me v e = moved slots id 0 me (Writer v, []) (λ n. either (eqb n 0) 1 n) (claims_as_writer a_step) e (writer_claims_there slots id v)

  pub reader_claims : (slots id : ℕ) (me : SeatIn Run) (v : ReadingIn Run) → me ≡ (Reader v, []) → Allows (IsCell its_run its_link) slots id me 0 (λ n. either (eqb n 0) 2 n) (claims_as_reader a_step me)
  reader_claims slots id me v e = moved slots id 0 me (Reader v, []) (λ n. either (eqb n 0) 2 n) (claims_as_reader a_step) e (reader_claims_there slots id v)

  pub writer_gives : (slots id : ℕ) (me : SeatIn Run) (end : WriteRec Run) (refused raised : ℕ) → WriterHas end refused raised me → Allows (IsCell its_run its_link) slots id me 0 (λ _. 0) (λ _. gives_written a_step me 0)
  writer_gives slots id me end refused raised has = moved slots id 0 me (Writer has.view, (0, has.log) ∷ []) (λ _. 0) (λ m _. gives_written a_step m 0) has.me_is
      (writer_gives_there slots id has.view has.found has.log has.held has.follows)

  pub reader_gives_taken : (slots id : ℕ) (me : SeatIn Run) (end : ReadRec Run) (refused : ℕ) (turns : List (LogRec Run)) → HasTaken end refused turns me → end.shut ≡ false → Allows (IsCell its_run its_link) slots id me 0 (λ _. 0) (λ _. gives_taken a_step me 0)
  reader_gives_taken slots id me end refused turns took is_open = let has = took.0 in moved slots id 0 me (Reader has.view, (0, has.log) ∷ []) (λ _. 0) (λ m _. gives_taken a_step m 0) has.me_is
      (reader_gives_taken_there slots id has.view has.found has.log has.held has.same (has.run ∙ has.reads.run) (has.number ∙ has.reads.number) (has.reads.base ∙ took.1) (took.2 is_open))

  pub reader_gives_shut : (slots id : ℕ) (me : SeatIn Run) (end : ReadRec Run) (refused : ℕ) (turns : List (LogRec Run)) → HasTaken end refused turns me → end.shut ≡ true → Allows (IsCell its_run its_link) slots id me 0 (λ _. 0) (λ _. gives_shut a_step me 0)
  reader_gives_shut slots id me end refused turns took shut = let has = took.0 in moved slots id 0 me (Reader has.view, (0, has.log) ∷ []) (λ _. 0) (λ m _. gives_shut a_step m 0) has.me_is
      (reader_gives_shut_there slots id has.view has.found has.log has.held has.same (has.run ∙ has.reads.run) (has.number ∙ has.reads.number) (has.reads.base ∙ took.1) (has.shut shut).closed)

  -- the news are raised
  news_rise_there : (slots id : ℕ) (v : WritingIn Run) → Allows (IsCell its_run its_link) slots id (Writer v, []) 1 (λ n. (n + 1) % 2 ^ 64) (raises a_step (Writer v, []))
  news_rise_there slots id v s c len at small =
      let here = writer_seat c.stage c.w c.r id v (seat_is s c id (Writer v) at) in
      let f = fits_writer s c id v at in
      let w' : WritingIn Run = record v { raised = v.raised + 1 } in
      let found : get_or s.words 1 0 ≡ in_word v.raised = ap (λ (l : List ℕ). get_or l 1 0) c.words ∙ c.raised ∙ raised_by here.2 in (
        Writer w',
        keeps,
        tt,
        record {
          word = c.word;
          news = (get_or s.words 1 0 + 1) % 2 ^ 64;
          home = c.home;
          stage = parted;
          w = w';
          r = c.r;
          words = ap (λ (l : List ℕ). set l 1 ((get_or s.words 1 0 + 1) % 2 ^ 64)) c.words;
          homes = c.homes;
          views = (λ i. set (c.views i) (here.1 i) (Writer w')) ∙ (λ i. set (seats_at (here.0 i) c.w c.r) 0 (Writer w'));
          fits = record {
            turn = f.turn;
            log = f.log;
            word_is = f.word_is;
            home_is = f.home_is;
            writer_has = f.writer_has;
            reader_has = f.reader_has;
            agrees = record { writes = f.agrees.writes; reads = f.agrees.reads; turns = f.agrees.turns };
          };
          of_run = c.of_run;
          of_number = c.of_number;
          raised = ap (λ n. (n + 1) % 2 ^ 64) found ∙ mod-add-mod v.raised (2 ^ 64) 1;
        },
        (λ v' e. let is_view : v ≡ v' = ap (λ (m : SeatIn Run). writing_or v m.0) e in λ i. (Writer (record (is_view i) { raised = (is_view i).raised + 1 }), [])),
      )

  pub news_rise : (slots id : ℕ) (me : SeatIn Run) (v : WritingIn Run) → me ≡ (Writer v, []) → Allows (IsCell its_run its_link) slots id me 1 (λ n. (n + 1) % 2 ^ 64) (raises a_step me)
  news_rise slots id me v e = moved slots id 1 me (Writer v, []) (λ n. (n + 1) % 2 ^ 64) (raises a_step) e (news_rise_there slots id v)

  -- one seat becomes two
  parts_there : (id : ℕ) (w : WritingIn Run) (r : ReadingIn Run) → Splits (IsCell its_run its_link) id (Whole w r) (Writer w) (Reader r)
  parts_there id w r s c at = let here = whole_seat c.stage c.w c.r id w r (seat_is s c id (Whole w r) at) in record {
    word = c.word;
    news = c.news;
    home = c.home;
    stage = parted;
    w = w;
    r = r;
    words = c.words;
    homes = c.homes;
    views = (λ i. set (c.views i) (here.1 i) (Writer w) ++ Reader r ∷ []) ∙ (λ i. set (seats_at (here.0 i) c.w c.r) 0 (Writer w) ++ Reader r ∷ []);
    fits = subst (λ (x : WritingIn Run × ReadingIn Run). Fits c.word c.home x.0 x.1) (λ i. (here.2 i, here.3 i)) c.fits;
    of_run = ap (λ (x : ReadingIn Run). x.run) (sym here.3) ∙ c.of_run;
    of_number = ap (λ (x : ReadingIn Run). x.number) (sym here.3) ∙ c.of_number;
    raised = c.raised ∙ raised_by here.2;
  }

  pub parts : (id : ℕ) (v : ViewIn Run) (w : WritingIn Run) (r : ReadingIn Run) → v ≡ Whole w r → Splits (IsCell its_run its_link) id v (writer_part v) (reader_part v)
  parts id v w r e = subst (λ (x : ViewIn Run). Splits (IsCell its_run its_link) id x (writer_part x) (reader_part x)) (sym e) (parts_there id w r)

  -- two seats become one
  joins_there : (id other : ℕ) (w : WritingIn Run) (r : ReadingIn Run) → Joins (IsCell its_run its_link) id (Writer w) other (Reader r) (Joined w r) Spent
  joins_there id other w r s c at apart that =
      let here = writer_seat c.stage c.w c.r id w (seat_is s c id (Writer w) at) in
      let two : set s.views id (Joined w r) ≡ Joined w r ∷ Reader c.r ∷ [] = (λ i. set (c.views i) (here.1 i) (Joined w r)) ∙ (λ i. set (seats_at (here.0 i) c.w c.r) 0 (Joined w r)) in
      let there = reader_beside w c.r r (Joined w r) other (λ z. apart (z ∙ sym here.1)) (ap (λ (l : List (ViewIn Run)). get_elem? l other) (sym two) ∙ that) in
      record {
        word = c.word;
        news = c.news;
        home = c.home;
        stage = joined;
        w = w;
        r = r;
        words = c.words;
        homes = c.homes;
        views = λ i. set (two i) (there.0 i) Spent;
        fits = subst (λ (x : WritingIn Run × ReadingIn Run). Fits c.word c.home x.0 x.1) (λ i. (here.2 i, there.1 i)) c.fits;
        of_run = ap (λ (x : ReadingIn Run). x.run) (sym there.1) ∙ c.of_run;
        of_number = ap (λ (x : ReadingIn Run). x.number) (sym there.1) ∙ c.of_number;
        raised = c.raised ∙ raised_by here.2;
      }

  pub joins : (id other : ℕ) (v u : ViewIn Run) (w : WritingIn Run) (r : ReadingIn Run) → v ≡ Writer w → u ≡ Reader r → Joins (IsCell its_run its_link) id v other u (joined_view v u) Spent
  joins id other v u w r e f = subst (λ (x : ViewIn Run × ViewIn Run). Joins (IsCell its_run its_link) id x.0 other x.1 (joined_view x.0 x.1) Spent) (λ i. (sym e i, sym f i)) (joins_there id other w r)

  -- at the end the log is at home, and is what both ends knew
  ends_at_home : (s : StateIn Run) (c : IsCell its_run its_link s) (id : ℕ) (w : WritingIn Run) (r : ReadingIn Run) → get_elem? s.views id ≡ some (Joined w r) → w.held ≡ None → r.held ≡ None
      → (log : LogRec Run) × (get_elem? s.homes 0 ≡ some (some log)) × Agrees log w r
  ends_at_home s c id w r at a b =
      let here = joined_seat c.stage c.w c.r id w r (seat_is s c id (Joined w r) at) in
      let left = is_left c.word c.home w r (subst (λ (x : WritingIn Run × ReadingIn Run). Fits c.word c.home x.0 x.1) (λ i. (here.0 i, here.1 i)) c.fits) a b in
      (left.log, ap (λ (l : List (maybe.Option (LogRec Run))). get_elem? l 0) c.homes ∙ ap some left.home_is, left.agrees)

  pub left_at_home : (words : List ℕ) (logs : List (LogRec Run)) (id : ℕ) (v : ViewIn Run) (log : LogRec Run) → IsJoined v → Final (Seen (IsCell its_run its_link) id v) words logs → get_elem? logs 0 ≡ some log → AgreesWith v log
  left_at_home words logs id (Joined w r) log idle final at =
      let t = ends_at_home final.0 final.1.0 id w r final.1.1 idle.0 idle.1 in
      let same : t.0 ≡ log = some-injective t.0 log (sym (final.4 0 t.0 t.1) ∙ at) in
      subst (λ (l : LogRec Run). Agrees l w r) same t.2
  left_at_home words logs id (Whole w r) log idle final at = absurd idle
  left_at_home words logs id (Writer w) log idle final at = absurd idle
  left_at_home words logs id (Reader r) log idle final at = absurd idle
  left_at_home words logs id Spent log idle final at = absurd idle
