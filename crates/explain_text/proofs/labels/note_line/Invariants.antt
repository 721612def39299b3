use Rattle.std.proofs.Common.{◌≡◌, ◌≤◌, ◌-◌, length}
use Rattle.explain_model.specs.Placed.{placed_labels, placed_tokens}
use Rattle.explain_model.specs.Labels.{bytes_of, note_labels}
use Rattle.placed_tokens.specs.Tokens.{placed_left}
use Rattle.explain_text.proofs.labels.note_line.Given as goal

abbrev pub invariant-loop-name : goal.invariant-loop-name
invariant-loop-name l = record {
  within : l.at ≤ length l.line;
  labels : note_labels l.number (bytes_of (placed_labels (placed_left l.line l.at))) l.labels.labels ≡ note_labels l.number (bytes_of (placed_labels (placed_tokens l.line))) l.initial.labels.labels;
}

abbrev pub decreases-loop-name : goal.decreases-loop-name
decreases-loop-name l = length l.line - l.at
