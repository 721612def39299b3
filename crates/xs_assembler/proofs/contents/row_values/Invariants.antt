use Rattle.std.proofs.Common.{◌≡◌, drop, map}
use Rattle.xs_text.specs.Tokens.{tokens_of}
use Rattle.xs_instructions.specs.Table.{values_among}
use Rattle.source_model.specs.Operands.{operands_of, amount_of, amounts_of}
use Rattle.xs_assembler.specs.Contents.{after_found, found_in}
use Rattle.xs_assembler.specs.Sofar.{sofar_of}
use Rattle.xs_assembler.proofs.contents.row_values.Given as goal

abbrev pub invariant-loop-part : goal.invariant-loop-part
invariant-loop-part l =
    after_found (sofar_of l.whole) l.found (values_among (drop l.part-index l.part-items) (map amount_of l.operands)) ≡ found_in (sofar_of l.whole) (amounts_of l.fn.row (operands_of (tokens_of l.text)))
