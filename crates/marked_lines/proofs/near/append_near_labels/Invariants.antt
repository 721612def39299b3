use Rattle.std.proofs.Common.{◌≡◌, map, drop, []}
use Rattle.explain_model.specs.Near.{near_from}
use Rattle.explain_model.specs.Labels.{names_of}
use Rattle.marked_lines.specs.Near.{near_of_kept}
use Rattle.marked_lines.proofs.near.append_near_labels.Given as goal

abbrev pub invariant-loop-k : goal.invariant-loop-k
invariant-loop-k l = near_from l.name (map near_of_kept l.found.items) (names_of (drop l.k l.labels.labels)) ≡ near_from l.name [] (names_of l.labels.labels)
