-- What a verdict `Yes` says of a plan and its ranks.
use Rattle.std.proofs.Common.{◌≡◌, ℕ, ◌<◌, Bool, true, false, cond, Option, Some, None, List, [], ◌∷◌, ◌++◌, length, get_or, refl, sym, ap, ◌∙◌, subst, arith, inl, inr, ◌⊎◌}
use Rattle.std.specs.Option.{IfSome}
use Rattle.std.proofs.lemmas.Bool.{both_ways, cases_Bool, cond_both, leb-false}
use Rattle.std.proofs.lemmas.Option.{none-some}
use Rattle.xs_base.specs.Numbers.{NodeId, Position, LinkNumber}
use Rattle.sys_plan.specs.Plan.{PlanRec}
use Rattle.rank_model.specs.declared.rank_line.RankLine.{RankLine}
use Rattle.rank_model.specs.declared.rank_kind.RankKind.{RankKind}
use Rattle.rank_model.specs.declared.verdict.Verdict.{Verdict}
use Rattle.rank_model.specs.declared.verdict.Verdict.TheVariants.{Yes, NoWay, NoRank}
use Rattle.rank_model.specs.Lines.{RanksRec}
use Rattle.rank_model.specs.Next.{link_count, or_first}
use Rattle.rank_model.specs.Verdicts.{is_cut_off, no_way_in, no_way_to, no_way_from, no_way}
use Rattle.rank_model.specs.Verdicts.{goes_on, dest_if, first_dest, does_not_rise, no_rank_for, no_rank_between, no_rank_after, no_rank, yes_unless, verdict_of}
use Rattle.rank_model.specs.Checks.{Checked, Refused, Judged, fault_of, unless_faulty, lines_checked, ranks_by_link, is_missing, judged, checked}
use Rattle.rank_laws.proofs.Firsts.{or_none, none_at, first_keeps}

-- ---- Ranks that are judged

abbrev IsJudged : Checked → Type 0
IsJudged (Refused line kind) = ⊥
IsJudged (Judged verdict) = Unit {0}

abbrev verdict_in : Checked → Verdict
verdict_in (Refused line kind) = NoWay 0 0 0
verdict_in (Judged verdict) = verdict

no_refusal : (line : ℕ) (kind : RankKind) (verdict : Verdict) → Refused line kind ≡ Judged verdict → ⊥
no_refusal line kind verdict same = subst IsJudged (sym same) tt

module _ (verdict : Verdict) where
  past_line : (rank : RankLine) (fault : Option RankKind) (rest : Checked) → unless_faulty rank fault rest ≡ Judged verdict → rest ≡ Judged verdict
  past_line rank None rest is = is
  past_line rank (Some kind) rest is = absurd (no_refusal rank.line kind verdict is)

  past_lines : (plan : PlanRec) (before lines : List RankLine) (rest : Checked) → lines_checked plan before lines rest ≡ Judged verdict → rest ≡ Judged verdict
  unfolding lines_checked
  past_lines plan before [] rest is = is
  past_lines plan before (rank ∷ lines) rest is =
      past_lines plan (before ++ rank ∷ []) lines rest (past_line rank (fault_of plan before rank) (lines_checked plan (before ++ rank ∷ []) lines rest) is)

  of_judged : (line : ℕ) (kind : RankKind) (other : Verdict) (missing : Bool) → cond missing (Refused line kind) (Judged other) ≡ Judged verdict → other ≡ verdict
  of_judged line kind other true is = absurd (no_refusal line kind verdict is)
  of_judged line kind other false is = ap verdict_in is

  pub verdict_is : (plan : PlanRec) (ranks : RanksRec) → checked plan ranks ≡ Judged verdict → verdict_of plan (ranks_by_link plan ranks.lines) ≡ verdict
  verdict_is plan ranks is = of_judged _ _ _ (is_missing plan ranks.lines) (past_lines plan [] ranks.lines (judged plan ranks) is)

-- ---- Nothing is found against it

miss_if_none : {A : Type 0} (hit : Bool) (a : A) → cond hit (Some a) None ≡ None → hit ≡ false
miss_if_none true a none = absurd (none-some a (sym none))
miss_if_none false a none = refl

abbrev IsYes : Verdict → Type 0
IsYes Yes = Unit {0}
IsYes (NoWay from to net) = ⊥
IsYes (NoRank first second dest) = ⊥

abbrev NoYes : Option Verdict → Type 0
NoYes found = IfSome found (λ verdict. IsYes verdict → ⊥)

way_no_yes : (plan : PlanRec) → NoYes (no_way plan)
way_no_yes plan =
    first_keeps _ _ (λ v. first_keeps _ _ (λ m. first_keeps _ _ (λ net. in_one v m net) 0 4) 0 (length plan.nodes)) 0 (length plan.nodes)
  where
    in_one : (v m : Position) (net : ℕ) → NoYes (no_way_in plan v m net)
    in_one v m net = cond_both (is_cut_off plan v m net) _ None NoYes (λ hit yes. yes) (λ miss. tt)

rank_no_yes : (plan : PlanRec) (ranks : List ℕ) → NoYes (no_rank plan ranks)
rank_no_yes plan ranks = first_keeps _ _ (λ l. first_keeps _ _ (λ k. in_one l k) 0 (link_count plan)) 0 (link_count plan)
  where
    of_dest : (l k : LinkNumber) (dest : Option NodeId) → NoYes (no_rank_for l k dest)
    of_dest l k None = tt
    of_dest l k (Some dest) = λ yes. yes

    in_one : (l k : LinkNumber) → NoYes (no_rank_between plan ranks l k)
    in_one l k = cond_both (does_not_rise ranks l k) (no_rank_for l k (first_dest plan l k)) None NoYes (λ hit. of_dest l k (first_dest plan l k)) (λ miss. tt)

none_if_yes : (found : Option Verdict) → NoYes found → yes_unless found ≡ Yes → found ≡ None
none_if_yes None never is = refl
none_if_yes (Some verdict) never is = absurd (never (subst IsYes (sym is) tt))

either_no_yes : (one other : Option Verdict) → NoYes one → NoYes other → NoYes (or_first one other)
either_no_yes None other never also = also
either_no_yes (Some verdict) other never also = never

module _ (plan : PlanRec) (ranks : List ℕ) (yes : verdict_of plan ranks ≡ Yes) where
  neither : (no_way plan ≡ None) × (no_rank plan ranks ≡ None)
  neither =
      or_none (no_way plan) (no_rank plan ranks)
      (none_if_yes (or_first (no_way plan) (no_rank plan ranks)) (either_no_yes (no_way plan) (no_rank plan ranks) (way_no_yes plan) (rank_no_yes plan ranks)) yes)

  -- no node is cut off from another
  pub not_cut_off : (v m : Position) (net : ℕ) → v < length plan.nodes → m < length plan.nodes → net < 4 → is_cut_off plan v m net ≡ false
  not_cut_off v m net there also in_range = miss_if_none (is_cut_off plan v m net) _ at_net
    where
      at_v : no_way_from plan v ≡ None
      at_v = none_at (no_way_from plan) 0 (length plan.nodes) neither.0 v (omega arith) (omega (arith, there))

      at_m : no_way_to plan v m ≡ None
      at_m = none_at (no_way_to plan v) 0 (length plan.nodes) at_v m (omega arith) (omega (arith, also))

      at_net : no_way_in plan v m net ≡ None
      at_net = none_at (no_way_in plan v m) 0 4 at_m net (omega arith) (omega (arith, in_range))

  -- where a packet may go on from a directed link to another, the rank of that is above
  pub rank_above : (l k : LinkNumber) (dest : NodeId) → l < link_count plan → k < link_count plan → dest < 65536 → goes_on plan l k dest ≡ true
      → get_or ranks l 0 < get_or ranks k 0
  rank_above l k dest there also in_range on = by_case (cases_Bool (does_not_rise ranks l k))
    where
      at_l : no_rank_after plan ranks l ≡ None
      at_l = none_at (no_rank_after plan ranks) 0 (link_count plan) neither.1 l (omega arith) (omega (arith, there))

      at_k : no_rank_between plan ranks l k ≡ None
      at_k = none_at (no_rank_between plan ranks l) 0 (link_count plan) at_l k (omega arith) (omega (arith, also))

      no_dest : (found : Option NodeId) → no_rank_for l k found ≡ None → found ≡ None
      no_dest None none = refl
      no_dest (Some d) none = absurd (none-some _ (sym none))

      by_case : (does_not_rise ranks l k ≡ true) ⊎ (does_not_rise ranks l k ≡ false) → get_or ranks l 0 < get_or ranks k 0
      by_case (inr miss) = leb-false (get_or ranks k 0) (get_or ranks l 0) miss
      by_case (inl hit) =
          let none : first_dest plan l k ≡ None = no_dest (first_dest plan l k) (ap (λ b. cond b (no_rank_for l k (first_dest plan l k)) None) (sym hit) ∙ at_k) in
          let at : dest_if plan l k dest ≡ None = none_at (dest_if plan l k) 0 65536 none dest (omega arith) (omega (arith, in_range)) in
          absurd (both_ways (goes_on plan l k dest) (miss_if_none (goes_on plan l k dest) dest at) on)
