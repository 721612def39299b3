use Rattle.std.proofs.Common.{◌≡◌, ◌+◌, ◌++◌, drop}
use Rattle.source_model.specs.Canonical.{Byte, behind_labels, lines_text}
use Rattle.xs_printer.specs.Firsts.{IsFirstFrom}
use Rattle.xs_printer.proofs.sections.append_bytes.Given as goal

abbrev pub invariant-loop-byte : goal.invariant-loop-byte
invariant-loop-byte l = record {
  at : l.at ≡ l.from + l.byte-index;
  first : IsFirstFrom l.image.symbols l.at l.next;
  lines : l.out ++ lines_text l.image.symbols (behind_labels Byte l.image.symbols 1 l.at (drop l.byte-index l.bytes))
      ≡ l.initial.out ++ lines_text l.image.symbols (behind_labels Byte l.image.symbols 1 l.from l.bytes);
}
