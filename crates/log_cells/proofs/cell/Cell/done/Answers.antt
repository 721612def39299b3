use Rattle.std.proofs.Common.{rules, ap, ◌∙◌, sym}
use Rattle.log_cells.specs.Rule.{refused_of, raised_of, turns_of, writing_of, reading_of}
use Rattle.log_cells.proofs.Kept.{joins}
use Rattle.log_cells.proofs.cell.Cell.done.Goals as goal

pub join_seat-requires : goal.join_seat-requires
join_seat-requires g c =
    let w = c.w.inside in
    let r = c.r.inside in
    let here = sym (ap (λ x. x.table) c.self.view_is) in (
      ap (λ x. x.table) c.w.view_is ∙ c.requires.writer.table ∙ here,
      ap (λ x. x.table) c.r.view_is ∙ c.requires.reader.table ∙ here,
      ap (λ m. m.1) c.r.invariant,
      search rules,
      joins _ _ _ _ (writing_of w.end (refused_of w.seat.me.0) (raised_of w.seat.me.0)) (reading_of r.end (refused_of r.seat.me.0) (turns_of r.seat.me.0)) (ap (λ m. m.0) c.w.invariant) (ap (λ m. m.0) c.r.invariant),
    )
