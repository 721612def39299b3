use Rattle.std.proofs.Common.{◌≡◌, ◌≤◌, ◌-◌, ◌++◌, length}
use Rattle.explain_model.specs.Placed.{placed_labels, placed_tokens}
use Rattle.placed_tokens.specs.Tokens.{placed_left}
use Rattle.warning_model.specs.Source.{warnings_of_labels}
use Rattle.warning_text.specs.Kept.{site_of}
use Rattle.warning_text.proofs.labels.add_labels.Given as goal

abbrev pub invariant-loop-label : goal.invariant-loop-label
invariant-loop-label l = record {
  within : l.at ≤ length l.site.bytes.now;
  warnings : l.warnings ++ warnings_of_labels (site_of l.site) l.names.labels l.behind (placed_labels (placed_left l.site.bytes.now l.at)) ≡ l.initial.warnings ++ warnings_of_labels (site_of l.site) l.names.labels l.behind (placed_labels (placed_tokens l.site.bytes.now));
}

abbrev pub decreases-loop-label : goal.decreases-loop-label
decreases-loop-label l = length l.site.bytes.now - l.at
