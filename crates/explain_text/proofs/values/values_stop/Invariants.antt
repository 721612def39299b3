use Rattle.std.proofs.Common.{◌≡◌, ◌≤◌, ◌-◌, length}
use Rattle.source_model.specs.Values.{ValueNext}
use Rattle.explain_model.specs.Values.{values_stop}
use Rattle.placed_tokens.specs.Tokens.{placed_left}
use Rattle.explain_text.specs.Values.{next_of_kept}
use Rattle.explain_text.proofs.values.values_stop.Given as goal

abbrev pub invariant-loop-token : goal.invariant-loop-token
invariant-loop-token l = record {
  within : l.behind ≤ length l.line;
  stop : values_stop l.behind (next_of_kept l.next) l.width (placed_left l.line l.behind) ≡ values_stop l.fn.behind ValueNext l.width (placed_left l.line l.fn.behind);
}

abbrev pub decreases-loop-token : goal.decreases-loop-token
decreases-loop-token l = length l.line - l.behind
