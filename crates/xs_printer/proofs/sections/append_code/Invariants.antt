use Rattle.std.proofs.Common.{◌≡◌, ◌++◌, drop}
use Rattle.xs_instructions.specs.Code.{code_start, place_address}
use Rattle.source_model.specs.Canonical.{Instruction, behind_labels, lines_text}
use Rattle.xs_printer.specs.Firsts.{IsFirstFrom}
use Rattle.xs_printer.proofs.sections.append_code.Given as goal

abbrev pub invariant-loop-ins : goal.invariant-loop-ins
invariant-loop-ins l = record {
  at : l.at ≡ place_address l.ins-index;
  first : IsFirstFrom l.image.symbols l.at l.next;
  lines : l.out ++ lines_text l.image.symbols (behind_labels Instruction l.image.symbols 4 l.at (drop l.ins-index l.image.code))
      ≡ l.initial.out ++ lines_text l.image.symbols (behind_labels Instruction l.image.symbols 4 code_start l.image.code);
}
