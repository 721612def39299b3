-- A verdict names directed links that are there.
use Rattle.std.proofs.Common.{◌≡◌, ℕ, zero, suc, ◌+◌, ◌<◌, Bool, true, false, if◌then◌else◌, Option, Some, None, IfSome, List, [], ◌∷◌, ◌++◌, length, arith, subst}
use Rattle.sys_plan.specs.Plan.{PlanRec}
use Rattle.rank_model.specs.declared.rank_kind.RankKind.{RankKind}
use Rattle.rank_model.specs.declared.rank_kind.RankKind.TheVariants.{RankMissing}
use Rattle.rank_model.specs.declared.rank_line.RankLine.{RankLine}
use Rattle.rank_model.specs.declared.verdict.Verdict.{Verdict}
use Rattle.rank_model.specs.declared.verdict.Verdict.TheVariants.{NoWay}
use Rattle.rank_model.specs.Lines.{RanksRec}
use Rattle.rank_model.specs.Next.{link_count, or_first, first_from}
use Rattle.rank_model.specs.Verdicts.{number_at, is_cut_off, no_way_in, no_way_to, no_way_from, no_way, does_not_rise, first_dest}
use Rattle.rank_model.specs.Verdicts.{no_rank_for, no_rank_between, no_rank_after, no_rank, yes_unless, verdict_of}
use Rattle.rank_model.specs.Checks.{Checked, Refused, Judged, fault_of, unless_faulty, lines_checked, is_missing, ranks_by_link, judged, checked}
use Rattle.xs1_top.specs.Routes.{NamesLinks}

-- ---- What holds of whatever is found holds of what is found first

or_holds : {A : Type 0} (P : A → Type 0) (first other : Option A) → IfSome first P → IfSome other P → IfSome (or_first first other) P
or_holds P (Some a) other h rest = h
or_holds P None other h rest = rest

first_holds : {A : Type 0} (P : A → Type 0) (find : ℕ → Option A) (n count : ℕ) → ((m : ℕ) → m < n + count → IfSome (find m) P) → IfSome (first_from find n count) P
unfolding first_from
first_holds P find n zero h = tt
first_holds P find n (suc count) h =
    or_holds P (find n) (first_from find (n + 1) count) (h n (omega arith)) (first_holds P find (n + 1) count (λ m below. h m (omega (arith, below))))

-- ---- The verdicts

way_names : (plan : PlanRec) (cut : Bool) (v m net : ℕ) → IfSome (if cut then Some (NoWay (number_at plan v) (number_at plan m) net) else None) (NamesLinks plan)
way_names plan true v m net = tt
way_names plan false v m net = tt

ways_name : (plan : PlanRec) → IfSome (no_way plan) (NamesLinks plan)
ways_name plan =
    first_holds (NamesLinks plan) (no_way_from plan) 0 (length plan.nodes) (λ v there.
    first_holds (NamesLinks plan) (no_way_to plan v) 0 (length plan.nodes) (λ m also_there.
    first_holds (NamesLinks plan) (no_way_in plan v m) 0 4 (λ net within. way_names plan (is_cut_off plan v m net) v m net)))

dest_names : (plan : PlanRec) (l k : ℕ) (dest : Option ℕ) → l < link_count plan → k < link_count plan → IfSome (no_rank_for l k dest) (NamesLinks plan)
dest_names plan l k None first second = tt
dest_names plan l k (Some dest) first second = (first, second)

rank_names : (plan : PlanRec) (stays : Bool) (l k : ℕ) (dest : Option ℕ) → l < link_count plan → k < link_count plan → IfSome (if stays then no_rank_for l k dest else None) (NamesLinks plan)
rank_names plan true l k dest first second = dest_names plan l k dest first second
rank_names plan false l k dest first second = tt

ranks_name : (plan : PlanRec) (ranks : List ℕ) → IfSome (no_rank plan ranks) (NamesLinks plan)
ranks_name plan ranks =
    first_holds (NamesLinks plan) (no_rank_after plan ranks) 0 (link_count plan) (λ l first.
    first_holds (NamesLinks plan) (no_rank_between plan ranks l) 0 (link_count plan) (λ k second.
    rank_names plan (does_not_rise ranks l k) l k (first_dest plan l k) (omega (arith, first)) (omega (arith, second))))

yes_names : (plan : PlanRec) (found : Option Verdict) → IfSome found (NamesLinks plan) → NamesLinks plan (yes_unless found)
yes_names plan None h = tt
yes_names plan (Some verdict) h = h

verdict_names : (plan : PlanRec) (ranks : List ℕ) → NamesLinks plan (verdict_of plan ranks)
verdict_names plan ranks = yes_names plan (or_first (no_way plan) (no_rank plan ranks)) (or_holds (NamesLinks plan) (no_way plan) (no_rank plan ranks) (ways_name plan) (ranks_name plan ranks))

-- ---- The ranks of a plan

NamesThere : PlanRec → Checked → Type 0
NamesThere plan (Judged verdict) = NamesLinks plan verdict
NamesThere plan (Refused line kind) = Unit {0}

unless_names : (plan : PlanRec) (rank : RankLine) (fault : Option RankKind) (rest : Checked) → NamesThere plan rest → NamesThere plan (unless_faulty rank fault rest)
unfolding NamesThere
unless_names plan rank None rest h = h
unless_names plan rank (Some kind) rest h = tt

lines_name : (plan : PlanRec) (before lines : List RankLine) (rest : Checked) → NamesThere plan rest → NamesThere plan (lines_checked plan before lines rest)
unfolding lines_checked
lines_name plan before [] rest h = h
lines_name plan before (rank ∷ ranks) rest h =
    unless_names plan rank (fault_of plan before rank) (lines_checked plan (before ++ rank ∷ []) ranks rest) (lines_name plan (before ++ rank ∷ []) ranks rest h)

judged_names : (plan : PlanRec) (ranks : RanksRec) (missing : Bool) → NamesThere plan (if missing then Refused ranks.system RankMissing else Judged (verdict_of plan (ranks_by_link plan ranks.lines)))
unfolding NamesThere
judged_names plan ranks true = tt
judged_names plan ranks false = verdict_names plan (ranks_by_link plan ranks.lines)

pub checked_names : (plan : PlanRec) (ranks : RanksRec) (verdict : Verdict) → checked plan ranks ≡ Judged verdict → NamesLinks plan verdict
unfolding NamesThere
checked_names plan ranks verdict e =
    let there = lines_name plan [] ranks.lines (judged plan ranks) (judged_names plan ranks (is_missing plan ranks.lines)) in
    subst (NamesThere plan) e there
