use Rattle.std.proofs.Common.{◌≡◌, ◌++◌, take, codes, decimal}
use Rattle.std.specs.Prelude.{flat_map}
use Rattle.frame_lines.proofs.numbers.append_others.Given as goal

abbrev pub invariant-loop-number : goal.invariant-loop-number
invariant-loop-number l = l.out ≡ l.initial.out ++ flat_map (λ m. codes ", " ++ decimal m) (take l.number-index l.numbers)
