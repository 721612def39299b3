-- The link ends of a node as it starts.
use Rattle.std.proofs.Common.{ℕ, zero, suc, ◌≡◌, ◌<◌, Bool, false, cond, eqb, List, [], ◌∷◌, Option, Some, None, refl, ap, sym, subst, ◌∙◌, replicate, arith}
use Rattle.std.proofs.lemmas.Bool.Decides.{nat_tests}
use Rattle.std.specs.Prelude.{map, IfSome}
use Rattle.std.specs.List.{AllByRecursion}
use Rattle.step_model.specs.Start.{link_with_gap, node_of}
use Rattle.net_model.specs.Links.{fresh_link}
use Rattle.link_ends.specs.Counts.{EndCounts, fresh_counts}
use Rattle.switch_routes.specs.Rows.{end_gap, end_gaps, IsCountsOf, AllCountsOf}
use Rattle.sys_plan.specs.declared.NodePlan.{NodePlan}
use Rattle.net_model.specs.Links.{IsLinkBefore}
use Rattle.core_step.specs.PinLevels.{levels_kept}
use Rattle.core_step.specs.Core.{CoreValue, StandsAt, SentBefore}
use Rattle.core_step.specs.Network.{counts_with_gap}

not_zero : (gap : ℕ) → eqb (suc gap) 0 ≡ false
not_zero gap = grind (arith, nat_tests)

some_counts : (gap : ℕ) → counts_with_gap (suc gap) ≡ Some (fresh_counts (suc gap))
some_counts gap = ap (λ (zero_gap : Bool). cond zero_gap None (Some (fresh_counts (suc gap)))) (not_zero gap)

some_link : (gap : ℕ) → link_with_gap (suc gap) ≡ Some fresh_link
some_link gap = ap (λ (zero_gap : Bool). cond zero_gap None (Some fresh_link)) (not_zero gap)

pub gaps_of_start : (gaps : List ℕ) → end_gaps (map counts_with_gap gaps) ≡ gaps
gaps_of_start [] = refl
gaps_of_start (zero ∷ gaps) = ap (λ (rest : List ℕ). 0 ∷ rest) (gaps_of_start gaps)
gaps_of_start (suc gap ∷ gaps) =
    ap (λ (w : Option EndCounts). end_gap w ∷ end_gaps (map counts_with_gap gaps)) (some_counts gap)
    ∙ ap (λ (rest : List ℕ). suc gap ∷ rest) (gaps_of_start gaps)

fresh_counts_of : (gap : ℕ) → IsCountsOf (Some (fresh_counts gap)) (Some fresh_link)
fresh_counts_of gap = record { buffer = refl; open_tokens = refl; last_sent = refl; rises = tt }

pub counts_of_start : (gaps : List ℕ) → AllCountsOf (map counts_with_gap gaps) (map link_with_gap gaps)
counts_of_start [] = tt
counts_of_start (zero ∷ gaps) = (tt, counts_of_start gaps)
counts_of_start (suc gap ∷ gaps) = (
  subst (λ w. IsCountsOf w (link_with_gap (suc gap))) (sym (some_counts gap)) (subst (λ l. IsCountsOf (Some (fresh_counts (suc gap))) l) (sym (some_link gap)) (fresh_counts_of (suc gap))),
  counts_of_start gaps,
)

links_before_start : (gaps : List ℕ) → AllByRecursion (λ l. IfSome l (IsLinkBefore 0)) (map link_with_gap gaps)
links_before_start [] = tt
links_before_start (zero ∷ gaps) = (tt, links_before_start gaps)
links_before_start (suc gap ∷ gaps) =
    (subst (λ l. IfSome l (IsLinkBefore 0)) (sym (some_link gap)) (record { sent = tt; credited = tt }), links_before_start gaps)

pub sent_before_start : (gaps : List ℕ) → SentBefore 0 (map counts_with_gap gaps)
sent_before_start [] = tt
sent_before_start (zero ∷ gaps) = (tt, sent_before_start gaps)
sent_before_start (suc gap ∷ gaps) =
    (subst (λ w. IfSome w (λ counts. IfSome counts.last_sent (λ s. s < 0))) (sym (some_counts gap)) tt, sent_before_start gaps)

pub stands_at_start : (value : CoreValue) (plan : NodePlan) (gaps : List ℕ) → value.core ≡ (node_of plan gaps).core → value.levels ≡ record { pins = record { level = replicate 29 0 }; is_outside = false } → value.inputs ≡ (node_of plan gaps).inputs → value.links ≡ map counts_with_gap gaps → StandsAt value (node_of plan gaps) 0
stands_at_start value plan gaps core levels inputs links = record {
  stands = record {
    core = core;
    levels = ap (levels_kept value.core.ports) levels;
    inputs = inputs;
    links = subst (λ row. AllCountsOf row (map link_with_gap gaps)) (sym links) (counts_of_start gaps);
  };
  links = links_before_start gaps;
}
