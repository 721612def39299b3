-- Lines one by one, and the directed links link by link.
use Rattle.std.proofs.Common.{ℕ, ◌≡◌, ◌+◌, ◌<◌, ◌≤◌, Bool, false, not, ◌||◌, Option, Some, None, is_some, is_none, List, length, take, drop, get_or, refl, sym, ap, ◌∙◌}
use Rattle.std.specs.List.{list_any}
use Rattle.std.proofs.lemmas.List.{length-map, drop_more, take_more, at_drop_more, at_drop_all}
use Rattle.sys_plan.specs.declared.LinkPlan.{LinkPlan}
use Rattle.sys_plan.specs.Plan.{PlanRec, Arc, forth, back, link_arcs}
use Rattle.sys_plan.proofs.Arcs.{arcs_length}
use Rattle.rank_model.specs.declared.rank_kind.RankKind.{RankKind}
use Rattle.rank_model.specs.declared.rank_line.RankLine.{RankLine}
use Rattle.rank_model.specs.Next.{link_count}
use Rattle.rank_model.specs.Checks.{Checked, Refused, fault_of, unless_faulty, lines_checked, given_rank, rank_or_0, ranks_by_link}

-- ---- Lines

module _ (plan : PlanRec) (lines : List RankLine) (i : ℕ) (rest : Checked) where
  abbrev from_here : Checked
  from_here = lines_checked plan (take i lines) (drop i lines) rest

  abbrev after_this : Checked
  after_this = lines_checked plan (take (i + 1) lines) (drop (i + 1) lines) rest

  pub faultless : length lines ≤ i → from_here ≡ rest
  unfolding lines_checked
  faultless past = at_drop_all (λ (ls : List RankLine). lines_checked plan (take i lines) ls rest) lines i past

  module _ (d : RankLine) (within : i < length lines) where
    abbrev line : RankLine
    line = get_or lines i d

    one_line : from_here ≡ unless_faulty line (fault_of plan (take i lines) line) after_this
    unfolding lines_checked
    one_line =
        ap (λ (ls : List RankLine). lines_checked plan (take i lines) ls rest) (drop_more lines i d within)
        ∙ ap (λ (before : List RankLine). unless_faulty line (fault_of plan (take i lines) line) (lines_checked plan before (drop (i + 1) lines) rest)) (sym (take_more lines i d within))

    pub faulty : (kind : RankKind) → fault_of plan (take i lines) line ≡ Some kind → from_here ≡ Refused line.line kind
    faulty kind is = one_line ∙ ap (λ (o : Option RankKind). unless_faulty line o after_this) is

    pub not_faulty : fault_of plan (take i lines) line ≡ None → from_here ≡ after_this
    not_faulty is = one_line ∙ ap (λ (o : Option RankKind). unless_faulty line o after_this) is

-- ---- Links

-- a link that is read among these passes a test in neither direction
module _ (test : Arc → Bool) (links items : List LinkPlan) (are : items ≡ links) (i : ℕ) (d : LinkPlan) (within : i < length items) where
  abbrev link : LinkPlan
  link = get_or items i d

  abbrev later : List LinkPlan → Bool
  later ls = list_any test (link_arcs (drop (i + 1) ls))

  pub neither : test (forth link) ≡ false → test (back link) ≡ false → list_any test (link_arcs (drop i links)) ≡ later links
  neither not_forth not_back =
      ap (λ (ls : List LinkPlan). list_any test (link_arcs (drop i ls))) (sym are)
      ∙ at_drop_more (λ (ls : List LinkPlan). list_any test (link_arcs ls)) items i d within
      ∙ ap (λ (b : Bool). b || (test (back link) || later items)) not_forth
      ∙ ap (λ (b : Bool). b || later items) not_back
      ∙ ap later are

pub not_none : (o : Option RankLine) (none : Bool) → is_some o ≡ not none → none ≡ false → is_none o ≡ false
not_none None none is some = absurd (cc (is, ap not some))
not_none (Some a) none is some = refl

pub ranks_count : (plan : PlanRec) (lines : List RankLine) → length (ranks_by_link plan lines) ≡ link_count plan
ranks_count plan lines = length-map (link_arcs plan.links) (λ arc. rank_or_0 (given_rank plan lines arc)) ∙ arcs_length plan.links
