use Rattle.std.proofs.Common.{◌≡◌, drop}
use Rattle.source_laws.specs.LabelOrder.{past_address}
use Rattle.xs_printer.proofs.labels.past_labels.Given as goal

abbrev pub invariant-loop-k : goal.invariant-loop-k
invariant-loop-k l = past_address l.at (drop l.k l.image.symbols) ≡ past_address l.at (drop l.from l.image.symbols)
