-- From the text that is answered back to the verdict, the plan and the ranks.
use Rattle.std.proofs.Common.{◌≡◌, ℕ, Bool, true, false, ◌||◌, if◌then◌else◌, Some, List, length, get_or, refl, sym, ap, ◌∙◌, arith}
use Rattle.std.proofs.lemmas.Bool.Decides.{nat_tests}
use Rattle.std.specs.Prelude.{codes, nat_lt}
use Rattle.system_model.specs.declared.SysKind.TheVariants as sys
use Rattle.system_model.specs.System as system
use Rattle.system_model.specs.System.{System, longest_input, system_of}
use Rattle.sys_plan.specs.Plan.{PlanRec}
use Rattle.rank_model.specs.declared.verdict.Verdict.{Verdict}
use Rattle.rank_model.specs.declared.verdict.Verdict.TheVariants.{Yes, NoWay, NoRank}
use Rattle.rank_model.specs.Lines.{RanksRec, RanksRead, Ranks, BadLine, ranks_of, system_after}
use Rattle.rank_model.specs.Checks as checks
use Rattle.rank_model.specs.Checks.{Checked, checked}
use Rattle.answer_model.specs.declared.Form.TheVariants as form
use Rattle.answer_model.specs.Forms.{form_of_words}
use Rattle.answer_model.specs.RoutesForm.{Frame, routes_by, routes_with, routes_after, verdict_text, answer_to_routes}
use Rattle.answer_model.specs.Top.{answer, answer_of_form}

-- the ranks and the plan of which the verdict is `Yes`
pub record Judgement (input : List ℕ) : Type 0 where
  pub ranks : RanksRec
  pub plan : PlanRec
  pub reads : ranks_of input ≡ Ranks ranks
  pub stands : system_of (system_after input ranks) ≡ system.Plan plan
  pub yes : checked plan ranks ≡ checks.Judged Yes

abbrev yes_text : List ℕ
yes_text = codes "routes yes\n"

-- no other line begins so
not_so : (a b : ℕ) → nat_lt a b || nat_lt b a ≡ true → a ≡ b → ⊥
not_so a b apart e = grind (arith, nat_tests)

abbrev at : ℕ → List ℕ → ℕ
at k text = get_or text k 0

module _ (input : List ℕ) where
  by_verdict : (ranks : RanksRec) (plan : PlanRec) (verdict : Verdict) → ranks_of input ≡ Ranks ranks → system_of (system_after input ranks) ≡ system.Plan plan → checked plan ranks ≡ checks.Judged verdict
      → verdict_text plan verdict ≡ yes_text → Judgement input
  by_verdict ranks plan Yes reads stands judged text = record { ranks = ranks; plan = plan; reads = reads; stands = stands; yes = judged }
  by_verdict ranks plan (NoWay from to net) reads stands judged text = absurd (not_so 110 114 refl (ap (at 0) text))
  by_verdict ranks plan (NoRank first second dest) reads stands judged text = absurd (not_so 110 114 refl (ap (at 0) text))

  by_checks : (ranks : RanksRec) (plan : PlanRec) (all : Checked) → ranks_of input ≡ Ranks ranks → system_of (system_after input ranks) ≡ system.Plan plan → checked plan ranks ≡ all
      → (answer_to_routes (routes_by plan all)).text ≡ yes_text → Judgement input
  by_checks ranks plan (checks.Judged verdict) reads stands judged text = by_verdict ranks plan verdict reads stands judged text
  by_checks ranks plan (checks.Refused line kind) reads stands judged text = absurd (not_so 97 111 refl (ap (at 1) text))

  by_system : (ranks : RanksRec) (of : System) → ranks_of input ≡ Ranks ranks → system_of (system_after input ranks) ≡ of → (answer_to_routes (routes_with ranks of)).text ≡ yes_text → Judgement input
  by_system ranks (system.Plan plan) reads stands text = by_checks ranks plan (checked plan ranks) reads stands refl text
  by_system ranks (system.Frame line kind) reads stands text = absurd (not_so 115 114 refl (ap (at 0) text))
  by_system ranks (system.Source node line kind) reads stands text = absurd (not_so 115 114 refl (ap (at 0) text))
  by_system ranks (system.Pins line kind) reads stands text = absurd (not_so 112 114 refl (ap (at 0) text))

  by_ranks : (read : RanksRead) → ranks_of input ≡ read → (answer_to_routes (routes_after input read)).text ≡ yes_text → Judgement input
  by_ranks (Ranks ranks) reads text = by_system ranks (system_of (system_after input ranks)) reads refl text
  by_ranks (BadLine line) reads text = absurd (not_so 97 111 refl (ap (at 1) text))

  by_length : (long : Bool) → (answer_to_routes (if long then Frame 0 sys.TooLong else routes_after input (ranks_of input))).text ≡ yes_text → Judgement input
  by_length true text = absurd (not_so 115 114 refl (ap (at 0) text))
  by_length false text = by_ranks (ranks_of input) refl text

  pub judgement : (words : List (List ℕ)) → form_of_words words ≡ Some form.Routes → (answer words input).text ≡ yes_text → Judgement input
  unfolding answer
  judgement words is text = by_length (nat_lt longest_input (length input)) (sym (ap (λ o. (answer_of_form o input).text) is) ∙ text)
