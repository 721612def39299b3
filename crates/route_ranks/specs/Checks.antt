-- What the check of ranks returns.
use Rattle.std.specs.Prelude.{ℕ, ◌≡◌, Bool, ◌&&◌, ◌==◌, Option, Some, None, Result, Ok, Err}
use Rattle.sys_plan.specs.Plan.{PlanRec}
use Rattle.rank_model.specs.declared.rank_line.RankLine.{RankLine}
use Rattle.rank_model.specs.declared.verdict.Verdict.{Verdict}
use Rattle.rank_model.specs.Verdicts.{number_at}
use Rattle.rank_model.specs.Checks.{Checked, Refused, Judged}
use Rattle.route_ranks.specs.declared.rank_error.RankError.{RankError}
use Rattle.route_ranks.specs.declared.rank_error.RankError.TheVariants.{Fault, Memory}
use Rattle.route_ranks.specs.declared.line_checks.LineFault.{LineFault}

-- what ranks come to, as a result: memory is never short
abbrev pub ChecksRanks : Checked → Result Verdict RankError → Type 0
ChecksRanks what (Ok verdict) = what ≡ Judged verdict
ChecksRanks what (Err (Fault line kind)) = what ≡ Refused line kind
ChecksRanks what (Err Memory) = ⊥

-- a fault, or what all comes to without one
abbrev pub or_fault : Option LineFault → Checked → Checked
or_fault None rest = rest
or_fault (Some fault) rest = Refused fault.line fault.kind

-- whether a line gives the rank of the directed link that leaves a link end of the node at a position
abbrev pub gives : PlanRec → ℕ → ℕ → RankLine → Bool
gives plan node end rank = (number_at plan node == rank.node) && (end == rank.end)
