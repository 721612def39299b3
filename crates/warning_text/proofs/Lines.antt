-- What is left where no line is.
use Rattle.std.proofs.Common.{◌≡◌, ℕ, Bool, true, false, List, [], ◌++◌, append-nil, ap, sym, ◌∙◌}
use Rattle.xs_text.specs.Lines.{lines_of}
use Rattle.sys_plan.specs.Plan.{PlanRec}
use Rattle.warning_model.specs.Warning.{Warning}
use Rattle.warning_model.specs.Warnings.{lines_to_end, warnings_of_frame, warnings_of_source_of}

pub none_left : (xs : List ℕ) → xs ≡ [] → lines_of xs ≡ []
unfolding lines_of
none_left xs e = ap lines_of e

pub none_to_end : (xs : List ℕ) → xs ≡ [] → lines_to_end (lines_of xs) ≡ []
unfolding lines_of lines_to_end
none_to_end xs e = ap (λ (l : List ℕ). lines_to_end (lines_of l)) e

pub none_of_frame : (plan : PlanRec) (n : ℕ) (inside : Bool) (ls : List (List ℕ)) → ls ≡ [] → warnings_of_frame plan n inside ls ≡ []
unfolding warnings_of_frame
none_of_frame plan n true ls e = ap (λ (l : List (List ℕ)). warnings_of_frame plan n true l) e
none_of_frame plan n false ls e = ap (λ (l : List (List ℕ)). warnings_of_frame plan n false l) e

pub none_of_source : (plan : PlanRec) (node n : ℕ) (inside : Bool) (ls : List (List ℕ)) → ls ≡ [] → warnings_of_source_of plan node n inside ls ≡ []
unfolding warnings_of_source_of
none_of_source plan node n true ls e = ap (λ (l : List (List ℕ)). warnings_of_source_of plan node n true l) e
none_of_source plan node n false ls e = ap (λ (l : List (List ℕ)). warnings_of_source_of plan node n false l) e

-- what was found is all, where nothing is left
pub all_found : (found left all : List Warning) → left ≡ [] → found ++ left ≡ all → found ≡ all
all_found found left all none is = sym (append-nil found) ∙ (sym (ap (λ (l : List Warning). found ++ l) none) ∙ is)

pub nothing_found : (found before left all : List Warning) → found ≡ before → left ≡ [] → left ≡ all → found ≡ before ++ all
nothing_found found before left all same none is = same ∙ (sym (append-nil before) ∙ ap (λ (l : List Warning). before ++ l) (sym none ∙ is))
