use Rattle.std.proofs.Common.{◌≡◌, ◌+◌, ◌≤◌, length, option_map}
use Rattle.source_model.specs.Values.{listed_values}
use Rattle.xs_text.specs.Tokens.{tokens_of}
use Rattle.xs_assembler.specs.Values.{left_length, values_left}
use Rattle.xs_assembler.proofs.values.count_values.Given as goal

abbrev pub invariant-loop-left : goal.invariant-loop-left
invariant-loop-left l =
    (option_map (λ values. l.count + length values) (values_left l.width l.left) ≡ option_map length (listed_values l.width (tokens_of l.list)))
    × (l.count + left_length l.left ≤ 1 + length (tokens_of l.list))

abbrev pub decreases-loop-left : goal.decreases-loop-left
decreases-loop-left l = left_length l.left
