-- What a look in a turn gives, of the log as that turn found it.
use Rattle.std.proofs.Common.{◌≡◌, ◌≤◌, List, [], ◌∷◌, ◌++◌, refl, sym, ap, ◌∙◌, arith, Bool, true, false, ◌||◌}
use Rattle.xs_base.specs.Numbers.{Slot}
use Rattle.xs_base.specs.declared.entry.Entry.{Entry}
use Rattle.link_logs.specs.declared.answers.Got.{Got}
use Rattle.link_logs.specs.declared.answers.Got.TheVariants.{Entries, Nothing, Closed}
use Rattle.link_logs.specs.Entries.{between}
use Rattle.link_logs.specs.Logs.{LogRec, ReadRec}
use Rattle.log_cells.specs.Ends.{CellReadRec, LooksAt, Gives, one_more}
use Rattle.log_cells.specs.Tries.{LooksInTurn}

or_false : (b : Bool) → b || false ≡ b
or_false true = refl
or_false false = refl

or_true : (b : Bool) → b || true ≡ true
or_true true = refl
or_true false = refl

module _ {Run : Type 0} (at : Slot → List Entry) where
  gives_by : (old new : ReadRec Run) (got : Got) → LooksAt at old got new → Gives at old got new
  gives_by old new (Entries from to batch) look =
      let f = look.finds in
      let published = look.log.published in (
        f.1,
        omega (arith, f.0, f.1, f.2),
        f.3 ∙ (λ i. between at (sym f.1 i) (sym f.2 i)),
        look.end ∙ (λ i. record old { got = sym f.2 i; looks = one_more old.looks; shut = or_false old.shut i }),
      )
  gives_by old new (Nothing published) look =
      let f = look.finds in
      (f.2, look.end ∙ (λ i. record old { got = f.0 i; looks = one_more old.looks; shut = or_false old.shut i }))
  gives_by old new Closed look =
      let f = look.finds in
      look.end ∙ (λ i. record old { got = f.0 i; looks = one_more old.looks; shut = or_true old.shut i })

  -- the one turn that was had is the one of the look
  pub looks_in_turn : (old new : CellReadRec Run) (got : Got) (logs : List (LogRec Run)) → (look : LooksAt at old.end got new.end) × (logs ≡ look.log ∷ [])
      → new.table ≡ old.table → new.refused ≡ old.refused → new.turns ≡ logs ++ old.turns
      → (old.end.shut ≡ true → got ≡ Closed) → old.end.looks ≤ new.end.looks → LooksInTurn at old got new
  looks_in_turn old new got logs looks table refused turns shut more = record {
    look = looks.0;
    turn = λ i. record { table = table i; end = new.end; refused = refused i; turns = (turns ∙ ap (λ (l : List (LogRec Run)). l ++ old.turns) looks.1) i };
    gives = gives_by old.end new.end got looks.0;
    shut = shut;
    more = more;
  }
