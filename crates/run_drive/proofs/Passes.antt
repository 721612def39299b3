-- Passes, up to the first after which all nodes are at the limit.
use Rattle.std.proofs.Common.{◌≡◌, ◌⊎◌, ◌+◌, ◌<◌, ◌≤◌, Bool, true, false, inl, inr, sym, ap, ◌∙◌, arith}
use Rattle.std.proofs.lemmas.Bool.{cases_lt, both_ways}
use Rattle.xs_base.specs.Numbers.{Slot}
use Rattle.sys_plan.specs.Plan.{PlanRec, IsPlan}
use Rattle.round_laws.specs.Rounds.{all_at_limit, rounds}
use Rattle.round_laws.specs.Laws.{NotAllBefore, MoreWhereNotAll}
use Rattle.node_rounds.specs.Run.{RoundRunRec}

-- no more passes were made than are to be
pub record IsOnTheWay (plan : PlanRec) (limit : Slot) (run : RoundRunRec) : Type 0 where
  pub plan_is : run.plan ≡ plan
  pub limit_is : run.limit ≡ limit
  pub few : run.passes ≤ rounds plan limit

module _ (plan : PlanRec) (limit : Slot) where
  pub begins : (run : RoundRunRec) → run ≡ record { plan = plan; limit = limit; passes = 0 } → IsOnTheWay plan limit run
  begins run new = record {
    plan_is = ap (λ (r : RoundRunRec). r.plan) new;
    limit_is = ap (λ (r : RoundRunRec). r.limit) new;
    few = omega (arith, ap (λ (r : RoundRunRec). r.passes) new);
  }

  module _ (run : RoundRunRec) (on : IsOnTheWay plan limit run) where
    told : (b : Bool) → all_at_limit run.plan run.limit run.passes ≡ b → all_at_limit plan limit run.passes ≡ b
    told b test = sym (λ i. all_at_limit (on.plan_is i) (on.limit_is i) run.passes) ∙ test

    -- where not all are at the limit one more is to be made
    pub one_more : MoreWhereNotAll → IsPlan plan → all_at_limit run.plan run.limit run.passes ≡ false → run.passes < rounds plan limit
    one_more more is test = more plan limit run.passes is (told false test)

    pub goes_on : (next : RoundRunRec) → run.passes < rounds plan limit → next ≡ record run { passes = run.passes + 1 } → IsOnTheWay plan limit next
    goes_on next below passed = record {
      plan_is = ap (λ (r : RoundRunRec). r.plan) passed ∙ on.plan_is;
      limit_is = ap (λ (r : RoundRunRec). r.limit) passed ∙ on.limit_is;
      few = omega (arith, ap (λ (r : RoundRunRec). r.passes) passed, below);
    }

    -- and where all are, that was the last
    pub was_last : NotAllBefore → all_at_limit run.plan run.limit run.passes ≡ true → run ≡ record { plan = plan; limit = limit; passes = rounds plan limit }
    was_last before test = λ i. record { plan = on.plan_is i; limit = on.limit_is i; passes = all_made i }
      where
        by_case : (run.passes < rounds plan limit) ⊎ (rounds plan limit ≤ run.passes) → run.passes ≡ rounds plan limit
        by_case (inl below) = absurd (both_ways (all_at_limit plan limit run.passes) (before plan limit run.passes below) (told true test))
        by_case (inr above) = omega (arith, above, on.few)

        all_made : run.passes ≡ rounds plan limit
        all_made = by_case (cases_lt run.passes (rounds plan limit))
