use Rattle.std.proofs.Common.{◌≡◌, ◌≤◌, ◌-◌, [], length}
use Rattle.std.specs.Prelude.{option_map}
use Rattle.explain_model.specs.Spots.{first_use}
use Rattle.placed_tokens.specs.Tokens.{placed_left}
use Rattle.explain_text.proofs.uses.first_use.Given as goal

abbrev pub invariant-loop-token : goal.invariant-loop-token
invariant-loop-token l = record {
  within : l.behind ≤ length l.line;
  found : first_use (option_map (λ s. s.now.labels) l.labels) l.of_directive l.second l.last (placed_left l.line l.behind) ≡ first_use (option_map (λ s. s.now.labels) l.labels) l.of_directive [] [] (placed_left l.line l.fn.behind);
}

abbrev pub decreases-loop-token : goal.decreases-loop-token
decreases-loop-token l = length l.line - l.behind
