use Rattle.std.proofs.Common.{map, ap, ◌∙◌}
use Rattle.xs_instructions.specs.Spelling.{spelled_piece}
use Rattle.xs_printer.proofs.Writable.{pieces_writable}
use Rattle.xs_printer.proofs.sections.append_text.Goals as goal

pub append_statement-requires-clause-writable : goal.append_statement-requires-clause-writable
append_statement-requires-clause-writable c =
    pieces_writable c.args.image.now.symbols c.args.ins (c.labels_stand_in_their_parts.ensures.values c.args.ins c.requires.in_range) (c.labels_stand_in_their_parts.ensures.labels c.args.ins)
    c.as_slice.result.now (ap (λ l. map spelled_piece l) c.as_slice.ensures.value ∙ c.spelling.ensures.value) c.requires.target
