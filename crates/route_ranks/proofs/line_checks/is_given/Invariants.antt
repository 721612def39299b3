use Rattle.std.proofs.Common.{◌≡◌, drop}
use Rattle.rank_model.specs.Checks.{is_given}
use Rattle.route_ranks.proofs.line_checks.is_given.Given as goal

-- no line so far names the link end
abbrev pub invariant-loop-other : goal.invariant-loop-other
invariant-loop-other l = is_given l.before l.rank ≡ is_given (drop l.other-index l.before) l.rank
