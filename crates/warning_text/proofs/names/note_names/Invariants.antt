use Rattle.std.proofs.Common.{◌≡◌, ◌≤◌, ◌-◌, length}
use Rattle.warning_model.specs.Named.{note_names}
use Rattle.placed_tokens.specs.Tokens.{placed_left}
use Rattle.warning_text.proofs.names.note_names.Given as goal

abbrev pub invariant-loop-token : goal.invariant-loop-token
invariant-loop-token l = record {
  within : l.at ≤ length l.line;
  names : note_names (placed_left l.line l.at) l.names.labels ≡ note_names (placed_left l.line l.behind) l.initial.names.labels;
}

abbrev pub decreases-loop-token : goal.decreases-loop-token
decreases-loop-token l = length l.line - l.at
