use Rattle.std.proofs.Common.{◌+◌, ◌<◌, refl, arith}
use Rattle.std.proofs.lemmas.List.{get_or_default}
use Rattle.xs_instructions.specs.Code.{code_start}
use Rattle.source_model.specs.Canonical.{Byte}
use Rattle.xs_printer.proofs.Pieces.{pair_more, none_left}
use Rattle.xs_printer.proofs.Behind.{lines_behind-next, lines_behind-end}
use Rattle.xs_printer.proofs.sections.append_bytes.Goals as goal

pub loop-byte-preserved : goal.loop-byte-preserved
loop-byte-preserved c =
    let symbols = c.args.image.now.symbols in
    let small : c.loop-byte.at + 1 < code_start = omega arith in
    record {
      at = omega arith;
      first = c.in_ok-next.ensures.next (c.loop-byte.at + 1) (c.labels_stand_in_order.ensures.next_byte c.loop-byte.at symbols small);
      lines = pair_more _ _ _ _ _ _ _ _ c.in_ok-next.ensures.lines c.in_ok-append_byte.ensures
          (lines_behind-next (λ n. Byte n) symbols 1 c.loop-byte.at (c.loop-byte.at + 1) c.loop-byte.byte-index c.args.bytes.now _ (omega arith) (get_or_default c.args.bytes.now c.loop-byte.byte-index 0 _ (omega arith)) refl) c.loop-byte.invariant.lines;
    }

pub returns-clause-lines : goal.returns-clause-lines
returns-clause-lines c =
    none_left _ _ _ (lines_behind-end (λ n. Byte n) c.args.image.now.symbols 1 c.loop-byte.at c.loop-byte.byte-index c.args.bytes.now (omega arith)) c.loop-byte.invariant.lines
