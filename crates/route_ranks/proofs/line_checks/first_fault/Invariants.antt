use Rattle.std.proofs.Common.{◌≡◌, take, drop, []}
use Rattle.rank_model.specs.Checks.{Checked, lines_checked}
use Rattle.route_ranks.proofs.line_checks.first_fault.Given as goal

-- no line so far is refused
abbrev pub invariant-loop-index : goal.invariant-loop-index
invariant-loop-index l = (rest : Checked) → lines_checked l.plan [] l.lines rest ≡ lines_checked l.plan (take l.index l.lines) (drop l.index l.lines) rest
