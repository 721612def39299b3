-- The form `routes`: ranks stand before a system text, and what they come to for the system is written. Nothing runs.
use Rattle.std.specs.Prelude.{ℕ, nat_lt, if◌then◌else◌, List, [], ◌∷◌, ◌++◌, length, codes, decimal}
use Rattle.xs_base.specs.Numbers.{LinkNumber}
use Rattle.pin_scripts.specs.declared.pin_error.PinKind.{PinKind}
use Rattle.source_model.specs.declared.AsmKind.{AsmKind}
use Rattle.sys_plan.specs.Plan.{PlanRec}
use Rattle.trace_model.specs.EventLines.{hex_word}
use Rattle.system_model.specs.declared.SysKind.{SysKind}
use Rattle.system_model.specs.declared.SysKind.TheVariants as sys
use Rattle.system_model.specs.System.{System, longest_input, system_of}
use Rattle.system_model.specs.System as system
use Rattle.rank_model.specs.declared.rank_kind.RankKind.{RankKind}
use Rattle.rank_model.specs.declared.rank_kind.RankKind.TheVariants as kinds
use Rattle.rank_model.specs.declared.verdict.Verdict.{Verdict}
use Rattle.rank_model.specs.declared.verdict.Verdict.TheVariants as verdicts
use Rattle.rank_model.specs.Lines.{RanksRec, RanksRead, Ranks, BadLine, ranks_of, system_after}
use Rattle.rank_model.specs.Next.{arc_at}
use Rattle.rank_model.specs.Verdicts.{number_at}
use Rattle.rank_model.specs.Checks as checks
use Rattle.rank_model.specs.Checks.{Checked, checked}
use Rattle.answer_model.specs.declared.Answer.{Answer}
use Rattle.answer_model.specs.declared.Status.TheVariants as status
use Rattle.answer_model.specs.Refusals.{frame_text, source_text, pins_text}

-- ---- What the input stands for

pub data Routes : Type 0 where
  -- a system and the verdict on its ranks
  Judged : (plan : PlanRec) (verdict : Verdict) → Routes
  -- the ranks are refused: the line and why
  BadRanks : (line : ℕ) (kind : RankKind) → Routes
  -- the system is refused, as a system text is
  Frame : (line : ℕ) (kind : SysKind) → Routes
  Source : (node line : ℕ) (kind : AsmKind) → Routes
  Pins : (line : ℕ) (kind : PinKind) → Routes

-- by what the ranks of a plan come to
abbrev pub routes_by : PlanRec → Checked → Routes
routes_by plan (checks.Judged verdict) = Judged plan verdict
routes_by plan (checks.Refused line kind) = BadRanks line kind

-- by what the system text after the ranks stands for
abbrev pub routes_with : RanksRec → System → Routes
routes_with ranks (system.Plan plan) = routes_by plan (checked plan ranks)
routes_with ranks (system.Frame line kind) = Frame line kind
routes_with ranks (system.Source node line kind) = Source node line kind
routes_with ranks (system.Pins line kind) = Pins line kind

-- by the lines before the system text. The lines of the system text count from 1
abbrev pub routes_after : List ℕ → RanksRead → Routes
routes_after input (Ranks ranks) = routes_with ranks (system_of (system_after input ranks))
routes_after input (BadLine line) = BadRanks line kinds.BadLine

-- the whole input may be as long as a system text
abbrev pub routes_of : List ℕ → Routes
routes_of input = if nat_lt longest_input (length input) then Frame 0 sys.TooLong else routes_after input (ranks_of input)

-- ---- What is written

abbrev pub text_of_rank_kind : RankKind → List ℕ
text_of_rank_kind kinds.BadLine = codes "K1 bad line"
text_of_rank_kind kinds.NoSuchLinkEnd = codes "K2 no such link end"
text_of_rank_kind kinds.GivenTwice = codes "K3 given twice"
text_of_rank_kind kinds.RankMissing = codes "K4 rank missing"

-- `ranks line L: KIND TEXT`
abbrev pub ranks_text : ℕ → RankKind → List ℕ
ranks_text line kind = codes "ranks line " ++ (decimal line ++ (codes ": " ++ (text_of_rank_kind kind ++ (10 ∷ []))))

-- ` N:E`: the link end that a directed link leaves
abbrev pub link_end_text : PlanRec → LinkNumber → List ℕ
link_end_text plan l = codes " " ++ (decimal (number_at plan (arc_at plan l).from) ++ (codes ":" ++ decimal (arc_at plan l).from_end))

-- `routes yes`, `no way N M net K`, or `no rank N:E M:F dest ID`
abbrev pub verdict_text : PlanRec → Verdict → List ℕ
verdict_text plan verdicts.Yes = codes "routes yes\n"
verdict_text plan (verdicts.NoWay from to net) =
    codes "no way " ++ (decimal from ++ (codes " " ++ (decimal to ++ (codes " net " ++ (decimal net ++ (10 ∷ []))))))
verdict_text plan (verdicts.NoRank first second dest) =
    codes "no rank" ++ (link_end_text plan first ++ (link_end_text plan second ++ (codes " dest " ++ (hex_word dest ++ (10 ∷ [])))))

-- the verdict, whatever it is, or the line that refuses the input
abbrev pub answer_to_routes : Routes → Answer
answer_to_routes (Judged plan verdict) = record { text = verdict_text plan verdict; status = status.Done }
answer_to_routes (BadRanks line kind) = record { text = ranks_text line kind; status = status.SystemFault }
answer_to_routes (Frame line kind) = record { text = frame_text line kind; status = status.SystemFault }
answer_to_routes (Source node line kind) = record { text = source_text node line kind; status = status.SourceFault }
answer_to_routes (Pins line kind) = record { text = pins_text line kind; status = status.ScriptFault }

abbrev pub routes_answer : List ℕ → Answer
routes_answer input = answer_to_routes (routes_of input)
