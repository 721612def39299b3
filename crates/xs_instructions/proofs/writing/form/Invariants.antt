use Rattle.std.proofs.Common.{◌≡◌, ◌+◌, ◌≤◌, ◌∷◌, ◌++◌, map, drop, length}
use Rattle.xs_instructions.specs.Rows.{name_of}
use Rattle.xs_instructions.specs.Spelling.{Text, spelled_piece}
use Rattle.xs_instructions.specs.Filled.{filled}
use Rattle.xs_instructions.proofs.writing.form.Given as goal

abbrev pub invariant-loop-part : goal.invariant-loop-part
invariant-loop-part l = record {
  pieces : map spelled_piece l.form.items ++ filled (drop l.part-index l.part-items) (map spelled_piece l.rest) ≡ Text (name_of l.fn.row) ∷ filled l.part-items (map spelled_piece l.operands);
  count : length l.form.items ≡ l.part-index + 1;
  room : length l.part-items ≤ 11;
}
