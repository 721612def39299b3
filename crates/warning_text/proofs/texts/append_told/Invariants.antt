use Rattle.std.proofs.Common.{◌≡◌, ◌++◌, map, length}
use Rattle.warning_model.specs.Texts.{told_text}
use Rattle.warning_text.specs.Kept.{warning_of}
use Rattle.warning_text.proofs.texts.append_told.Given as goal

abbrev pub invariant-loop-left : goal.invariant-loop-left
invariant-loop-left l = l.out ++ told_text (map warning_of l.left) ≡ l.initial.out ++ told_text (map warning_of l.warnings)

abbrev pub decreases-loop-left : goal.decreases-loop-left
decreases-loop-left l = length l.left
