use Rattle.std.proofs.Common.{◌≡◌, ◌≢◌, [], length}
use Rattle.xs_text.specs.Tokens.{tokens_of}
use Rattle.source_model.specs.Statement.{labels_first, after_labels}
use Rattle.source_model.specs.Layout.{define_all}
use Rattle.xs_assembler.proofs.sofar.define_all.Given as goal

abbrev pub invariant-loop-name : goal.invariant-loop-name
invariant-loop-name l =
    (define_all l.place (labels_first (tokens_of l.rest)) l.names.labels ≡ define_all l.place (labels_first (tokens_of l.line)) l.initial.names.labels)
    × (after_labels (tokens_of l.rest) ≡ after_labels (tokens_of l.line))
    × (l.names.key ≡ l.initial.names.key)
    × (labels_first (tokens_of l.rest) ≢ [] → labels_first (tokens_of l.line) ≢ [])

abbrev pub decreases-loop-name : goal.decreases-loop-name
decreases-loop-name l = length (tokens_of l.rest)
