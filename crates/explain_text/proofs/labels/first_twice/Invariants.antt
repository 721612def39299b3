use Rattle.std.proofs.Common.{◌≡◌, ◌≤◌, ◌-◌, length}
use Rattle.explain_model.specs.Placed.{placed_labels, placed_tokens}
use Rattle.explain_model.specs.Labels.{first_twice}
use Rattle.placed_tokens.specs.Tokens.{placed_left}
use Rattle.explain_text.proofs.labels.first_twice.Given as goal

abbrev pub invariant-loop-name : goal.invariant-loop-name
invariant-loop-name l = record {
  within : l.at ≤ length l.line;
  found : first_twice l.number l.labels.labels (placed_labels (placed_left l.line l.at)) ≡ first_twice l.number l.initial.labels.labels (placed_labels (placed_tokens l.line));
}

abbrev pub decreases-loop-name : goal.decreases-loop-name
decreases-loop-name l = length l.line - l.at
