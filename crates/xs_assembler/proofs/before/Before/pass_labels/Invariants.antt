use Rattle.std.proofs.Common.{◌≡◌, ◌||◌, length, take}
use Rattle.std.specs.List.{list_any}
use Rattle.xs_text.specs.Tokens.{tokens_of}
use Rattle.xs_instructions.specs.Image.{is_reserved}
use Rattle.source_model.specs.Statement.{labels_first, after_labels}
use Rattle.source_model.specs.Layout.{define_all, here}
use Rattle.source_model.specs.Source.{defines_twice}
use Rattle.xs_assembler.proofs.before.Before.pass_labels.Given as goal

abbrev pub invariant-loop-name : goal.invariant-loop-name
invariant-loop-name l = record {
  labels : define_all (here l.initial.self.layout) (labels_first (tokens_of l.rest)) (take l.self.labels l.names.labels) ≡ define_all (here l.initial.self.layout) (labels_first (tokens_of l.line)) (take l.initial.self.labels l.names.labels);
  twice : (l.twice || defines_twice (here l.initial.self.layout) (take l.self.labels l.names.labels) (labels_first (tokens_of l.rest))) ≡ defines_twice (here l.initial.self.layout) (take l.initial.self.labels l.names.labels) (labels_first (tokens_of l.line));
  reserved : (l.reserved || list_any is_reserved (labels_first (tokens_of l.rest))) ≡ list_any is_reserved (labels_first (tokens_of l.line));
  rest : after_labels (tokens_of l.rest) ≡ after_labels (tokens_of l.line);
  layout : l.self.layout ≡ l.initial.self.layout;
}

abbrev pub decreases-loop-name : goal.decreases-loop-name
decreases-loop-name l = length (tokens_of l.rest)
