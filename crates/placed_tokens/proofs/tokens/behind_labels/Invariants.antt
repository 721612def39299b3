use Rattle.std.proofs.Common.{◌≡◌, ◌≤◌, ◌-◌, length}
use Rattle.explain_model.specs.Placed.{placed_statement, placed_tokens}
use Rattle.placed_tokens.specs.Tokens.{placed_left}
use Rattle.placed_tokens.proofs.tokens.behind_labels.Given as goal

abbrev pub invariant-loop-behind : goal.invariant-loop-behind
invariant-loop-behind l = record {
  within : l.at ≤ length l.line;
  statement : placed_statement (placed_left l.line l.at) ≡ placed_statement (placed_tokens l.line);
}

abbrev pub decreases-loop-behind : goal.decreases-loop-behind
decreases-loop-behind l = length l.line - l.at
