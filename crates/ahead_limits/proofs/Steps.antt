-- What steps do to the numbers of a schedule.
use Rattle.std.proofs.Common.{◌≡◌, ℕ, zero, suc, ◌+◌, ◌*◌, ◌<◌, ◌≤◌, min, max, ◌⊎◌, true, false, ltb, cond, Option, Some, None, List, [], ◌∷◌, length, get_or, take, drop, replicate, refl, sym, ap, ◌∙◌, arith, inl, inr}
use Rattle.std.proofs.lemmas.Bool.{cases_Bool, ltb-true}
use Rattle.std.proofs.lemmas.Bool.Decides.{nat_tests}
use Rattle.std.proofs.lemmas.List.{length-set, length-replicate, take-replicate, at_drop_more, at_drop_all}
use Rattle.xs_base.specs.Numbers.{Slot}
use Rattle.sys_plan.specs.declared.LinkPlan.{LinkPlan}
use Rattle.sys_plan.specs.declared.WirePlan.{WirePlan}
use Rattle.sys_plan.specs.declared.Step.{Step}
use Rattle.sys_plan.specs.declared.Step.TheVariants.{Take, Run, Send}
use Rattle.sys_plan.specs.Plan.{PlanRec, IsPlan, arc_count, incoming, outgoing}
use Rattle.sys_plan.proofs.Arcs.{arcs_length}
use Rattle.sys_plan.proofs.Told.{arcs-count}
use Rattle.ahead_limits.specs.declared.horizon.Seen.{Seen}
use Rattle.ahead_limits.specs.Horizon.{HorizonRec, may_run}
use Rattle.ahead_limits.specs.Bound.{nearer, least_bound}
use Rattle.ahead_limits.specs.Schedule.{ScheduleRec, IsOfPlan, schedule_at_start, clock_after, after_take, after_send, after_step, after_steps}
use Rattle.ahead_limits.proofs.Bounds.{may_run_is}

pub arcs_number : (plan : PlanRec) → arc_count plan ≡ 2 * length plan.links + length plan.wires
arcs_number plan = omega (arith, arcs-count plan, arcs_length plan.links)

-- no more arcs are there than a plan may have, and of none of them anything was seen
pub nothing_seen : (plan : PlanRec) → IsPlan plan → (links : List LinkPlan) (wires : List WirePlan) → links ≡ plan.links → wires ≡ plan.wires
    → take (2 * length links + length wires) (replicate {A = Slot} 128 0) ≡ replicate (arc_count plan) 0
nothing_seen plan is links wires same also =
    let number : 2 * length links + length wires ≡ arc_count plan = (λ i. 2 * length (same i) + length (also i)) ∙ sym (arcs_number plan) in
    let few : 2 * length links + length wires ≤ 128 = omega (arith, is.few_links, is.few_wires, ap (λ (ls : List LinkPlan). length ls) same, ap (λ (ws : List WirePlan). length ws) also) in
    take-replicate (2 * length links + length wires) 128 0 few ∙ ap (λ n. replicate {A = Slot} n 0) number

-- ---- How far a node runs

-- it runs a slot that it may run
pub clock_more : (h : HorizonRec) (count : ℕ) (clock : Slot) → may_run h clock ≡ true → clock_after h (suc count) clock ≡ clock_after h count (clock + 1)
unfolding clock_after
clock_more h count clock runs = ap (λ b. clock_after h count (cond b (clock + 1) clock)) runs

stays_one : (h : HorizonRec) (count : ℕ) (clock : Slot) → may_run h clock ≡ false → clock_after h (suc count) clock ≡ clock_after h count clock
unfolding clock_after
stays_one h count clock stops = ap (λ b. clock_after h count (cond b (clock + 1) clock)) stops

none_after : (h : HorizonRec) (clock : Slot) → clock_after h 0 clock ≡ clock
unfolding clock_after
none_after h clock = refl

-- where it may not run it stays, however many slots it is to run
pub clock_stays : (h : HorizonRec) (count : ℕ) (clock : Slot) → may_run h clock ≡ false → clock_after h count clock ≡ clock
clock_stays h zero clock stops = none_after h clock
clock_stays h (suc count) clock stops = stays_one h count clock stops ∙ clock_stays h count clock stops

module _ (h : HorizonRec) where
  abbrev bound : Slot
  bound = least_bound h.limit h.ends

  below_bound : (clock : Slot) → may_run h clock ≡ true → clock < bound
  below_bound clock runs = ltb-true clock bound (may_run_is h clock clock bound refl refl ∙ runs)

  ran_on : (clock count : ℕ) → clock < bound → max (clock + 1) (min (clock + 1 + count) bound) ≡ max clock (min (clock + suc count) bound)
  ran_on clock count less = grind (arith, nat_tests)

  ran_none : (clock : ℕ) → clock ≡ max clock (min (clock + 0) bound)
  ran_none clock = grind (arith, nat_tests)

  stays_at : (clock count : ℕ) → ltb clock bound ≡ false → clock ≡ max clock (min (clock + count) bound)
  stays_at clock count not = grind (arith, nat_tests)

  pub runs_to_bound : (count : ℕ) (clock : Slot) → clock_after h count clock ≡ max clock (min (clock + count) bound)
  runs_to_bound zero clock = none_after h clock ∙ ran_none clock
  runs_to_bound (suc count) clock = by_test (cases_Bool (may_run h clock)) (runs_to_bound count (clock + 1))
    where
      by_test : (may_run h clock ≡ true) ⊎ (may_run h clock ≡ false) → clock_after h count (clock + 1) ≡ max (clock + 1) (min (clock + 1 + count) bound)
          → clock_after h (suc count) clock ≡ max clock (min (clock + suc count) bound)
      by_test (inl runs) more = clock_more h count clock runs ∙ more ∙ ran_on clock count (below_bound clock runs)
      by_test (inr stops) more = clock_stays h (suc count) clock stops ∙ stays_at clock (suc count) (may_run_is h clock clock bound refl refl ∙ stops)

nearer_within : (bound : Slot) (s : Option Seen) → nearer bound s ≤ bound
nearer_within bound None = omega arith
nearer_within bound (Some s) = omega arith

pub bound_within : (limit : Slot) (ends : List (Option Seen)) → least_bound limit ends ≤ limit
bound_within limit [] = omega arith
bound_within limit (s ∷ ends) = omega (arith, bound_within (nearer limit s) ends, nearer_within limit s)

-- the same in the words of the code
pub runs_on : (h : HorizonRec) (clock count kept a b c end result : ℕ) → a ≡ clock → b ≡ count → c ≡ clock → kept ≡ least_bound h.limit h.ends
    → end ≡ min (a + b) kept → result ≡ max c end → result ≡ clock_after h count clock
runs_on h clock count kept a b c end result ea eb ec ek ee er =
    er ∙ (λ i. max (ec i) (ee i)) ∙ (λ i. max clock (min (ea i + eb i) (ek i))) ∙ sym (runs_to_bound h count clock)

-- ---- The lengths stay

taken_lengths : (plan : PlanRec) (o : Option ℕ) (s : ScheduleRec) → IsOfPlan plan s → IsOfPlan plan (after_take o s)
taken_lengths plan None s is = is
taken_lengths plan (Some link) s is = record { clocks = is.clocks; seen = length-set s.seen link (get_or s.published link 0) ∙ is.seen; published = is.published }

sent_lengths : (plan : PlanRec) (o : Option ℕ) (clock : Slot) (s : ScheduleRec) → IsOfPlan plan s → IsOfPlan plan (after_send o clock s)
sent_lengths plan None clock s is = is
sent_lengths plan (Some link) clock s is = record { clocks = is.clocks; seen = is.seen; published = length-set s.published link clock ∙ is.published }

pub lengths_stay : (plan : PlanRec) (limit : Slot) (s : ScheduleRec) (step : Step) → IsOfPlan plan s → IsOfPlan plan (after_step plan limit s step)
lengths_stay plan limit s (Take node end) is = taken_lengths plan (incoming plan node end) s is
lengths_stay plan limit s (Run node count) is = record { clocks = length-set s.clocks node _ ∙ is.clocks; seen = is.seen; published = is.published }
lengths_stay plan limit s (Send node end) is = sent_lengths plan (outgoing plan node end) (get_or s.clocks node 0) s is

pub lengths_at_start : (plan : PlanRec) → IsOfPlan plan (schedule_at_start plan)
lengths_at_start plan = record {
  clocks = length-replicate (length plan.nodes) 0;
  seen = length-replicate (arc_count plan) 0;
  published = length-replicate (arc_count plan) 0;
}

-- ---- One step after another

pub one_more : (plan : PlanRec) (limit : Slot) (s next whole : ScheduleRec) (items steps : List Step) (i : ℕ) (d : Step) → items ≡ steps → i < length items
    → next ≡ after_step plan limit s (get_or items i d) → after_steps plan limit s (drop i steps) ≡ whole → after_steps plan limit next (drop (i + 1) steps) ≡ whole
unfolding after_steps
one_more plan limit s next whole items steps i d same less is before =
    (λ j. after_steps plan limit (is j) (drop (i + 1) (sym same j)))
    ∙ sym (at_drop_more (after_steps plan limit s) items i d less)
    ∙ ap (λ xs. after_steps plan limit s (drop i xs)) same
    ∙ before

pub no_more : (plan : PlanRec) (limit : Slot) (s whole : ScheduleRec) (steps : List Step) (i : ℕ) → length steps ≤ i → after_steps plan limit s (drop i steps) ≡ whole → s ≡ whole
unfolding after_steps
no_more plan limit s whole steps i all before = sym (at_drop_all (after_steps plan limit s) steps i all) ∙ before
