use Rattle.std.proofs.Common.{ap, ◌∙◌, subst}
use Rattle.log_cells.specs.Rule.{refused_of, turns_of}
use Rattle.log_cells.specs.Ends.{CellReadRec}
use Rattle.log_cells.specs.Tries.{LooksInTurn}
use Rattle.log_cells.proofs.Looks.{looks_in_turn}
use Rattle.log_cells.proofs.cell.Cell.take_after.Goals as goal

pub take-found-requires-clause-has : goal.take-found-requires-clause-has
take-found-requires-clause-has g c = c.claim_to_read.ensures.has c.if-not-claim_to_read.false

pub returns : goal.returns
returns g c =
    let claimed = c.claim_to_read.ensures in
    let took = c.take-found.ensures in
    let gave = c.give_taken.ensures in
    let refused = ap (λ m. refused_of m.0) gave.reader ∙ took.refused ∙ claimed.same c.if-not-claim_to_read.false in
    let turns = ap (λ m. turns_of m.0) gave.reader ∙ took.turns ∙ claimed.turns in
    let at = g.S.Story.entries_at in
    let seat = c.give_taken.new.seat in
    let new : CellReadRec g.row.S-Run.Denot = record { table = seat.table_id; end = c.take-found.new.end; refused = refused_of seat.me.0; turns = turns_of seat.me.0 } in
    record {
      takes = subst (λ (old : CellReadRec g.row.S-Run.Denot). LooksInTurn (at old.end.run old.end.number) old c.take-found.result new) c.r.view_is
          (looks_in_turn _ _ new _ _ took.got (gave.table ∙ took.table ∙ claimed.table) refused turns took.shut took.more);
    }
