use Rattle.std.proofs.Common.{◌≡◌, map, drop}
use Rattle.explain_model.specs.Near.{near_from}
use Rattle.marked_lines.specs.Near.{near_of_kept}
use Rattle.marked_lines.proofs.near.add_names.Given as goal

abbrev pub invariant-loop-other : goal.invariant-loop-other
invariant-loop-other l =
    near_from l.name (map near_of_kept l.found.items) (map (λ n. n.now) (drop l.other-index l.names)) ≡ near_from l.name (map near_of_kept l.initial.found.items) (map (λ n. n.now) l.names)
