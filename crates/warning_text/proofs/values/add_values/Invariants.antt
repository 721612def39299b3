use Rattle.std.proofs.Common.{◌≡◌, ◌≤◌, ◌-◌, ◌++◌, [], length}
use Rattle.placed_tokens.specs.Tokens.{placed_left}
use Rattle.warning_model.specs.Source.{warnings_of_values}
use Rattle.warning_text.specs.Kept.{site_of}
use Rattle.warning_text.proofs.values.add_values.Given as goal

abbrev pub invariant-loop-token : goal.invariant-loop-token
invariant-loop-token l = record {
  within : l.at ≤ length l.site.bytes.now;
  warnings : l.warnings ++ warnings_of_values (site_of l.site) l.nodes l.before (placed_left l.site.bytes.now l.at) ≡ l.initial.warnings ++ warnings_of_values (site_of l.site) l.nodes [] (placed_left l.site.bytes.now l.behind);
}

abbrev pub decreases-loop-token : goal.decreases-loop-token
decreases-loop-token l = length l.site.bytes.now - l.at
