-- Whether the ranks that lines give are those of a plan: one for each directed link.
use Rattle.std.specs.Prelude.{ℕ, Bool, not, ◌&&◌, ◌==◌, if◌then◌else◌, Option, Some, None, is_none, List, [], ◌∷◌, ◌++◌, map, find}
use Rattle.std.specs.List.{list_any}
use Rattle.sys_plan.specs.Plan.{PlanRec, Arc, link_arcs}
use Rattle.rank_model.specs.declared.rank_kind.RankKind.{RankKind}
use Rattle.rank_model.specs.declared.rank_kind.RankKind.TheVariants.{NoSuchLinkEnd, GivenTwice, RankMissing}
use Rattle.rank_model.specs.declared.rank_line.RankLine.{RankLine}
use Rattle.rank_model.specs.declared.verdict.Verdict.{Verdict}
use Rattle.rank_model.specs.Lines.{RanksRec}
use Rattle.rank_model.specs.Verdicts.{number_at, verdict_of}

-- ---- A line of ranks by the lines before it

-- whether a rank is that of a directed link, which it names by the link end that the link leaves
abbrev pub is_rank_of : PlanRec → Arc → RankLine → Bool
is_rank_of plan arc rank = (number_at plan arc.from == rank.node) && (arc.from_end == rank.end)

abbrev pub names_none : PlanRec → RankLine → Bool
names_none plan rank = not (list_any (λ arc. is_rank_of plan arc rank) (link_arcs plan.links))

abbrev pub is_given : List RankLine → RankLine → Bool
is_given before rank = list_any (λ (other : RankLine). (other.node == rank.node) && (other.end == rank.end)) before

abbrev pub fault_of : PlanRec → List RankLine → RankLine → Option RankKind
fault_of plan before rank = if names_none plan rank then Some NoSuchLinkEnd else (if is_given before rank then Some GivenTwice else None)

-- ---- All lines

-- what a plan and ranks come to: the line that is refused and why, or the verdict
pub data Checked : Type 0 where
  Refused : (line : ℕ) (kind : RankKind) → Checked
  Judged : (verdict : Verdict) → Checked

-- a line by its fault, and what all comes to without it
abbrev pub unless_faulty : RankLine → Option RankKind → Checked → Checked
unless_faulty rank None rest = rest
unless_faulty rank (Some kind) rest = Refused rank.line kind

-- lines after those before them, and what all comes to where none has a fault
unfoldable pub lines_checked : PlanRec → List RankLine → List RankLine → Checked → Checked
lines_checked plan before [] rest = rest
lines_checked plan before (rank ∷ ranks) rest = unless_faulty rank (fault_of plan before rank) (lines_checked plan (before ++ rank ∷ []) ranks rest)

-- ---- The ranks of the directed links

-- the rank of a directed link, if a line gives it
abbrev pub given_rank : PlanRec → List RankLine → Arc → Option RankLine
given_rank plan lines arc = find (is_rank_of plan arc) lines

abbrev pub rank_or_0 : Option RankLine → ℕ
rank_or_0 None = 0
rank_or_0 (Some rank) = rank.rank

-- the ranks of all directed links by number, 0 where none is given
abbrev pub ranks_by_link : PlanRec → List RankLine → List ℕ
ranks_by_link plan lines = map (λ arc. rank_or_0 (given_rank plan lines arc)) (link_arcs plan.links)

-- whether a directed link has no rank
abbrev pub is_missing : PlanRec → List RankLine → Bool
is_missing plan lines = list_any (λ arc. is_none (given_rank plan lines arc)) (link_arcs plan.links)

-- a rank that is missing is told at the line `system`
abbrev pub judged : PlanRec → RanksRec → Checked
judged plan ranks = if is_missing plan ranks.lines then Refused ranks.system RankMissing else Judged (verdict_of plan (ranks_by_link plan ranks.lines))

-- what the ranks of a plan come to
abbrev pub checked : PlanRec → RanksRec → Checked
checked plan ranks = lines_checked plan [] ranks.lines (judged plan ranks)
