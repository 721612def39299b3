use Rattle.std.proofs.Common.{◌≡◌, ◌++◌, drop}
use Rattle.source_laws.specs.LabelOrder.{past_address}
use Rattle.xs_printer.proofs.LabelWalk.{lines_at}
use Rattle.xs_printer.proofs.labels.append_labels.Given as goal

abbrev pub invariant-loop-k : goal.invariant-loop-k
invariant-loop-k l = record {
  rest : past_address l.at (drop l.k l.image.symbols) ≡ past_address l.at (drop l.from l.image.symbols);
  lines : l.out ++ lines_at l.at l.image.symbols l.k ≡ l.initial.out ++ lines_at l.at l.image.symbols l.from;
}
