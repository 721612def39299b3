use Rattle.std.proofs.Common.{◌≡◌, length}
use Rattle.explain_model.specs.Near.{is_one_edit}
use Rattle.marked_lines.proofs.near.is_one_edit.Given as goal

abbrev pub invariant-loop-name : goal.invariant-loop-name
invariant-loop-name l = is_one_edit l.name l.other ≡ is_one_edit l.fn.name l.fn.other

abbrev pub decreases-loop-name : goal.decreases-loop-name
decreases-loop-name l = length l.name
