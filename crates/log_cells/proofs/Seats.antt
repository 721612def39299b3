-- Who has which seat, and what is known of the log by whose turn it is.
use Rattle.std.proofs.Common.{◌≡◌, ◌≢◌, ℕ, zero, suc, sym, refl, ap, ◌∙◌, subst, arith, Option, Some, None}
use mathlib.Core.Option.{some, none, some-injective, some-ne-none}
use mathlib.Core.Option as maybe
use lib.ListN.{get_elem?}
use Rattle.link_logs.specs.Logs.{LogRec}
use Rattle.log_cells.specs.declared.view.View.TheVariants.{Whole, Writer, Reader, Joined, Spent}
use Rattle.log_cells.specs.Rule.{WritingIn, ReadingIn, ViewIn, Turn, free, writers, readers, turn_word, home_at, writer_has, reader_has, Stage, made, parted, joined, Agrees, Fits, seats_at}

module _ {Run : Type 0} where
  abbrev kind : ViewIn Run → ℕ
  kind (Whole w r) = 0
  kind (Writer w) = 1
  kind (Reader r) = 2
  kind (Joined w r) = 3
  kind Spent = 4

  abbrev pub writing_or : WritingIn Run → ViewIn Run → WritingIn Run
  writing_or d (Whole w r) = w
  writing_or d (Writer w) = w
  writing_or d (Reader r) = d
  writing_or d (Joined w r) = w
  writing_or d Spent = d

  abbrev pub reading_or : ReadingIn Run → ViewIn Run → ReadingIn Run
  reading_or d (Whole w r) = r
  reading_or d (Writer w) = d
  reading_or d (Reader r) = r
  reading_or d (Joined w r) = r
  reading_or d Spent = d

  other_kind : {Z : Type 0} (u v : ViewIn Run) → kind u ≢ kind v → some u ≡ some v → Z
  other_kind u v h e = absurd (h (ap kind (some-injective u v e)))

  nobody : {Z : Type 0} (v : ViewIn Run) → none ≡ some v → Z
  nobody v e = absurd (some-ne-none v (sym e))

  pub writer_seat : (stage : Stage) (w : WritingIn Run) (r : ReadingIn Run) (id : ℕ) (v : WritingIn Run) → get_elem? (seats_at stage w r) id ≡ some (Writer v) → (stage ≡ parted) × (id ≡ 0) × (w ≡ v)
  writer_seat made w r zero v e = other_kind (Whole w r) (Writer v) (λ h. omega arith) e
  writer_seat made w r (suc id) v e = nobody (Writer v) e
  writer_seat parted w r zero v e = (refl, refl, ap (writing_or w) (some-injective (Writer w) (Writer v) e))
  writer_seat parted w r (suc zero) v e = other_kind (Reader r) (Writer v) (λ h. omega arith) e
  writer_seat parted w r (suc (suc id)) v e = nobody (Writer v) e
  writer_seat joined w r zero v e = other_kind (Joined w r) (Writer v) (λ h. omega arith) e
  writer_seat joined w r (suc zero) v e = other_kind Spent (Writer v) (λ h. omega arith) e
  writer_seat joined w r (suc (suc id)) v e = nobody (Writer v) e

  pub reader_seat : (stage : Stage) (w : WritingIn Run) (r : ReadingIn Run) (id : ℕ) (v : ReadingIn Run) → get_elem? (seats_at stage w r) id ≡ some (Reader v) → (stage ≡ parted) × (id ≡ 1) × (r ≡ v)
  reader_seat made w r zero v e = other_kind (Whole w r) (Reader v) (λ h. omega arith) e
  reader_seat made w r (suc id) v e = nobody (Reader v) e
  reader_seat parted w r zero v e = other_kind (Writer w) (Reader v) (λ h. omega arith) e
  reader_seat parted w r (suc zero) v e = (refl, refl, ap (reading_or r) (some-injective (Reader r) (Reader v) e))
  reader_seat parted w r (suc (suc id)) v e = nobody (Reader v) e
  reader_seat joined w r zero v e = other_kind (Joined w r) (Reader v) (λ h. omega arith) e
  reader_seat joined w r (suc zero) v e = other_kind Spent (Reader v) (λ h. omega arith) e
  reader_seat joined w r (suc (suc id)) v e = nobody (Reader v) e

  pub whole_seat : (stage : Stage) (w : WritingIn Run) (r : ReadingIn Run) (id : ℕ) (v : WritingIn Run) (u : ReadingIn Run) → get_elem? (seats_at stage w r) id ≡ some (Whole v u) → (stage ≡ made) × (id ≡ 0) × (w ≡ v) × (r ≡ u)
  whole_seat made w r zero v u e = (refl, refl, ap (writing_or w) (some-injective (Whole w r) (Whole v u) e), ap (reading_or r) (some-injective (Whole w r) (Whole v u) e))
  whole_seat made w r (suc id) v u e = nobody (Whole v u) e
  whole_seat parted w r zero v u e = other_kind (Writer w) (Whole v u) (λ h. omega arith) e
  whole_seat parted w r (suc zero) v u e = other_kind (Reader r) (Whole v u) (λ h. omega arith) e
  whole_seat parted w r (suc (suc id)) v u e = nobody (Whole v u) e
  whole_seat joined w r zero v u e = other_kind (Joined w r) (Whole v u) (λ h. omega arith) e
  whole_seat joined w r (suc zero) v u e = other_kind Spent (Whole v u) (λ h. omega arith) e
  whole_seat joined w r (suc (suc id)) v u e = nobody (Whole v u) e

  pub joined_seat : (stage : Stage) (w : WritingIn Run) (r : ReadingIn Run) (id : ℕ) (v : WritingIn Run) (u : ReadingIn Run) → get_elem? (seats_at stage w r) id ≡ some (Joined v u) → (w ≡ v) × (r ≡ u)
  joined_seat made w r zero v u e = other_kind (Whole w r) (Joined v u) (λ h. omega arith) e
  joined_seat made w r (suc id) v u e = nobody (Joined v u) e
  joined_seat parted w r zero v u e = other_kind (Writer w) (Joined v u) (λ h. omega arith) e
  joined_seat parted w r (suc zero) v u e = other_kind (Reader r) (Joined v u) (λ h. omega arith) e
  joined_seat parted w r (suc (suc id)) v u e = nobody (Joined v u) e
  joined_seat joined w r zero v u e = (ap (writing_or w) (some-injective (Joined w r) (Joined v u) e), ap (reading_or r) (some-injective (Joined w r) (Joined v u) e))
  joined_seat joined w r (suc zero) v u e = other_kind Spent (Joined v u) (λ h. omega arith) e
  joined_seat joined w r (suc (suc id)) v u e = nobody (Joined v u) e

  abbrev held_number : Option (LogRec Run) → ℕ
  held_number None = 0
  held_number (Some log) = 1

  abbrev held_or : LogRec Run → Option (LogRec Run) → LogRec Run
  held_or d None = d
  held_or d (Some log) = log

  not_held : {Z : Type 0} (log : LogRec Run) (x : Option (LogRec Run)) → x ≡ Some log → x ≡ None → Z
  not_held log x e f = let h : 1 ≡ 0 = ap held_number (sym e ∙ f) in absurd (omega (arith, h))

  module _ (word : ℕ) (home : maybe.Option (LogRec Run)) (w : WritingIn Run) (r : ReadingIn Run) where
    pub record AtHome : Type 0 where
      pub log : LogRec Run
      pub home_is : home ≡ some log
      pub writer_has : w.held ≡ None
      pub reader_has : r.held ≡ None
      pub agrees : Agrees log w r

    free_by_word : (t : Turn) (log : LogRec Run) → word ≡ turn_word t → home ≡ home_at t log → w.held ≡ writer_has t log → r.held ≡ reader_has t log → Agrees log w r → word ≡ 0 → AtHome
    free_by_word free log a b c d e h = record { log = log; home_is = b; writer_has = c; reader_has = d; agrees = e }
    free_by_word writers log a b c d e h = absurd (omega (arith, a, h))
    free_by_word readers log a b c d e h = absurd (omega (arith, a, h))

    pub is_free : Fits word home w r → word ≡ 0 → AtHome
    is_free f h = free_by_word f.turn f.log f.word_is f.home_is f.writer_has f.reader_has f.agrees h

    free_by_views : (t : Turn) (log : LogRec Run) → home ≡ home_at t log → w.held ≡ writer_has t log → r.held ≡ reader_has t log → Agrees log w r → w.held ≡ None → r.held ≡ None → AtHome
    free_by_views free log b c d e h k = record { log = log; home_is = b; writer_has = c; reader_has = d; agrees = e }
    free_by_views writers log b c d e h k = not_held log w.held c h
    free_by_views readers log b c d e h k = not_held log r.held d k

    pub is_left : Fits word home w r → w.held ≡ None → r.held ≡ None → AtHome
    is_left f h k = free_by_views f.turn f.log f.home_is f.writer_has f.reader_has f.agrees h k

    writers_by : (t : Turn) (log found : LogRec Run) → home ≡ home_at t log → w.held ≡ writer_has t log → r.held ≡ reader_has t log → Agrees log w r → w.held ≡ Some found
        → (home ≡ none) × (r.held ≡ None) × Agrees found w r
    writers_by free log found b c d e h = not_held found w.held h c
    writers_by writers log found b c d e h = let same : log ≡ found = ap (held_or log) (sym c ∙ h) in (b, d, subst (λ (l : LogRec Run). Agrees l w r) same e)
    writers_by readers log found b c d e h = not_held found w.held h c

    -- the log is with the writer
    pub is_writers : (found : LogRec Run) → Fits word home w r → w.held ≡ Some found → (home ≡ none) × (r.held ≡ None) × Agrees found w r
    is_writers found f h = writers_by f.turn f.log found f.home_is f.writer_has f.reader_has f.agrees h

    readers_by : (t : Turn) (log found : LogRec Run) → home ≡ home_at t log → w.held ≡ writer_has t log → r.held ≡ reader_has t log → Agrees log w r → r.held ≡ Some found
        → (home ≡ none) × (w.held ≡ None) × Agrees found w r
    readers_by free log found b c d e h = not_held found r.held h d
    readers_by writers log found b c d e h = not_held found r.held h d
    readers_by readers log found b c d e h = let same : log ≡ found = ap (held_or log) (sym d ∙ h) in (b, c, subst (λ (l : LogRec Run). Agrees l w r) same e)

    pub is_readers : (found : LogRec Run) → Fits word home w r → r.held ≡ Some found → (home ≡ none) × (w.held ≡ None) × Agrees found w r
    is_readers found f h = readers_by f.turn f.log found f.home_is f.writer_has f.reader_has f.agrees h
