use Rattle.std.proofs.Common.{◌≡◌, ◌++◌, map, take, codes}
use Rattle.std.specs.Prelude.{flat_map}
use Rattle.explain_model.specs.Near.{Near, near_text}
use Rattle.marked_lines.specs.Near.{near_of_kept}
use Rattle.marked_lines.proofs.near.append_others.Given as goal

abbrev pub invariant-loop-near : goal.invariant-loop-near
invariant-loop-near l = l.out ≡ l.initial.out ++ flat_map (λ (n : Near). codes ", " ++ near_text n) (map near_of_kept (take l.near-index l.found))
