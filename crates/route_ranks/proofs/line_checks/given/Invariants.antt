use Rattle.std.proofs.Common.{◌≡◌, drop}
use Rattle.std.specs.Prelude.{find}
use Rattle.route_ranks.specs.Checks.{gives}
use Rattle.route_ranks.proofs.line_checks.given.Given as goal

-- no line so far gives the rank
abbrev pub invariant-loop-rank : goal.invariant-loop-rank
invariant-loop-rank l = find (gives l.plan l.node l.end) l.lines ≡ find (gives l.plan l.node l.end) (drop l.rank-index l.lines)
