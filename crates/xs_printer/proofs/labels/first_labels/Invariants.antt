use Rattle.std.proofs.Common.{◌≡◌, ◌≤◌, length, drop}
use Rattle.xs_instructions.specs.Code.{place_address}
use Rattle.source_laws.specs.LabelOrder.{symbols_from}
use Rattle.xs_printer.specs.Firsts.{AreFirstLabels}
use Rattle.xs_printer.proofs.labels.first_labels.Given as goal

abbrev pub invariant-loop-place : goal.invariant-loop-place
invariant-loop-place l = record {
  firsts : AreFirstLabels l.image.symbols l.place l.firsts.items;
  within : l.next ≤ length l.image.symbols;
  rest : drop l.next l.image.symbols ≡ symbols_from (place_address l.place) l.image.symbols;
}
