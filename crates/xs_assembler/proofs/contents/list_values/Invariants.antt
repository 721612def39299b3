use Rattle.std.proofs.Common.{◌≡◌}
use Rattle.std.specs.Prelude.{option_and_then}
use Rattle.source_model.specs.Values.{listed_values}
use Rattle.xs_text.specs.Tokens.{tokens_of}
use Rattle.xs_assembler.specs.Contents.{after_found, found_in}
use Rattle.xs_assembler.specs.Sofar.{sofar_of}
use Rattle.xs_assembler.specs.Values.{left_length, values_left}
use Rattle.xs_assembler.proofs.contents.list_values.Given as goal

abbrev pub invariant-loop-left : goal.invariant-loop-left
invariant-loop-left l =
    option_and_then (after_found (sofar_of l.whole) l.found) (values_left l.list.width l.left) ≡ option_and_then (found_in (sofar_of l.whole)) (listed_values l.list.width (tokens_of l.list.text.now))

abbrev pub decreases-loop-left : goal.decreases-loop-left
decreases-loop-left l = left_length l.left
