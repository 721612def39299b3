-- Each step keeps the bounds of a schedule, and lets no number fall.
use Rattle.std.proofs.Common.{◌≡◌, ◌⊎◌, ℕ, zero, suc, ◌+◌, ◌<◌, ◌≤◌, true, false, ltb, Option, Some, None, List, [], ◌∷◌, length, replicate, get_or, set, slice_get, refl, sym, ap, ◌∙◌, subst, arith, inl, inr}
use Rattle.std.specs.Prelude.{option_map}
use Rattle.std.specs.List.{list_all}
use Rattle.std.proofs.lemmas.Bool.{and_parts, ltb-true, cases_Bool}
use Rattle.std.proofs.lemmas.Option.{same_Some}
use Rattle.xs_base.specs.Numbers.{Slot, Position, EndNumber, LinkNumber}
use Rattle.sys_plan.specs.declared.Step.{Step}
use Rattle.sys_plan.specs.declared.Step.TheVariants.{Take, Run, Send}
use Rattle.sys_plan.specs.Plan.{PlanRec, Arc, arcs, arc_count, incoming, outgoing, delay_of}
use Rattle.sys_plan.specs.declared.system_plan.TheConstants.{ENDS}
use Rattle.sys_plan.proofs.Routes.{leads-from, found-at-end-in}
use Rattle.ahead_limits.specs.declared.horizon.Seen.{Seen}
use Rattle.ahead_limits.specs.Horizon.{HorizonRec, may_run, lets_run, horizon_at}
use Rattle.ahead_limits.specs.Schedule.{ScheduleRec, IsOfPlan, schedule_at_start, seen_of_link, horizon_of, clock_after, after_take, after_run, after_send, after_step, after_steps}
use Rattle.ahead_limits.specs.Kept.{KeepsBounds, NoneFalls, StepsKeepBounds, NoStepFalls, SchedulesKeepBounds}
use Rattle.ahead_limits.proofs.Ends.{all_below}
use Rattle.ahead_limits.proofs.Steps.{clock_more, clock_stays, lengths_stay, lengths_at_start}

-- ---- Lists of numbers

-- what is read after a write: what was there, or what was written
set_cases : (xs : List ℕ) (i v j : ℕ) → (get_or (set xs i v) j 0 ≡ get_or xs j 0) ⊎ ((j ≡ i) × (get_or (set xs i v) j 0 ≡ v))
set_cases [] i v j = inl refl
set_cases (x ∷ xs) zero v zero = inr (refl, refl)
set_cases (x ∷ xs) zero v (suc j) = inl refl
set_cases (x ∷ xs) (suc i) v zero = inl refl
set_cases (x ∷ xs) (suc i) v (suc j) = one_on (set_cases xs i v j)
  where
    one_on : (get_or (set xs i v) j 0 ≡ get_or xs j 0) ⊎ ((j ≡ i) × (get_or (set xs i v) j 0 ≡ v)) → (get_or (set xs i v) j 0 ≡ get_or xs j 0) ⊎ ((suc j ≡ suc i) × (get_or (set xs i v) j 0 ≡ v))
    one_on (inl e) = inl e
    one_on (inr e) = inr (ap suc e.0, e.1)

-- what holds of all numbers, and of the written one, holds after the write
set_all : (P : ℕ → ℕ → Type 0) (xs : List ℕ) (i v : ℕ) → ((j : ℕ) → P j (get_or xs j 0)) → P i v → (j : ℕ) → P j (get_or (set xs i v) j 0)
set_all P xs i v all here j = by_case (set_cases xs i v j)
  where
    by_case : (get_or (set xs i v) j 0 ≡ get_or xs j 0) ⊎ ((j ≡ i) × (get_or (set xs i v) j 0 ≡ v)) → P j (get_or (set xs i v) j 0)
    by_case (inl e) = subst (P j) (sym e) (all j)
    by_case (inr e) = subst (λ k. P k (get_or (set xs i v) j 0)) (sym e.0) (subst (P i) (sym e.1) here)

zeros : (n j : ℕ) → get_or {A = ℕ} (replicate n 0) j 0 ≡ 0
zeros zero j = refl
zeros (suc n) zero = refl
zeros (suc n) (suc j) = zeros n j

same_le : (n : ℕ) → n ≤ n
same_le n = omega arith

-- ---- How far a node runs

module _ (h : HorizonRec) where
  pub clock_rises : (count : ℕ) (clock : Slot) → clock ≤ clock_after h count clock
  unfolding clock_after
  clock_rises zero clock = same_le clock
  clock_rises (suc count) clock = by_test (cases_Bool (may_run h clock)) (clock_rises count (clock + 1))
    where
      by_test : (may_run h clock ≡ true) ⊎ (may_run h clock ≡ false) → clock + 1 ≤ clock_after h count (clock + 1) → clock ≤ clock_after h (suc count) clock
      by_test (inl runs) more = omega (arith, clock_more h count clock runs, more)
      by_test (inr stops) more = omega (arith, clock_stays h (suc count) clock stops)

  -- it does not pass what it may not run past
  pub clock_within : (most : Slot) → ((clock : Slot) → may_run h clock ≡ true → clock < most) → (count : ℕ) (clock : Slot) → clock ≤ most → clock_after h count clock ≤ most
  unfolding clock_after
  clock_within most below zero clock less = less
  clock_within most below (suc count) clock less = by_test (cases_Bool (may_run h clock)) (λ up. clock_within most below count (clock + 1) up)
    where
      by_test : (may_run h clock ≡ true) ⊎ (may_run h clock ≡ false) → (clock + 1 ≤ most → clock_after h count (clock + 1) ≤ most) → clock_after h (suc count) clock ≤ most
      by_test (inl runs) more =
          let up : clock < most = below clock runs in
          omega (arith, clock_more h count clock runs, more (omega (arith, up)))
      by_test (inr stops) more = omega (arith, clock_stays h (suc count) clock stops, less)

  pub below_limit : (clock : Slot) → may_run h clock ≡ true → clock < h.limit
  below_limit clock runs = ltb-true clock h.limit (and_parts (ltb clock h.limit) (list_all (lets_run clock) h.ends) runs).0

  pub below_end : (end : EndNumber) (s : Seen) → slice_get h.ends end ≡ Some (Some s) → (clock : Slot) → may_run h clock ≡ true → clock < horizon_at s
  below_end end s at clock runs = all_below clock h.ends (and_parts (ltb clock h.limit) (list_all (lets_run clock) h.ends) runs).1 end s at

-- the horizon of a node tells of each arc that comes to it
pub link_at_end : (plan : PlanRec) (limit : Slot) (seen : List Slot) (n : Position) (end : EndNumber) (link : LinkNumber) → end < ENDS → incoming plan n end ≡ Some link
    → slice_get (horizon_of plan limit seen n).ends end ≡ Some (Some (seen_of_link plan seen link))
link_at_end plan limit seen n end link less at =
    found-at-end-in plan n (λ e. option_map (seen_of_link plan seen) (incoming plan n e)) end less ∙ ap (λ (o : Option ℕ). Some (option_map (seen_of_link plan seen) o)) at

-- ---- A step

module _ (plan : PlanRec) (limit : Slot) where
  none_falls : (s : ScheduleRec) → NoneFalls s s
  none_falls s = record { clocks = λ n. same_le (get_or s.clocks n 0); seen = λ l. same_le (get_or s.seen l 0); published = λ l. same_le (get_or s.published l 0) }

  module _ (s : ScheduleRec) (k : KeepsBounds plan limit s) where
    -- a take

    take_falls : (o : Option ℕ) → NoneFalls s (after_take o s)
    take_falls None = none_falls s
    take_falls (Some link) = record {
      clocks = (none_falls s).clocks;
      seen = set_all (λ j n. get_or s.seen j 0 ≤ n) s.seen link (get_or s.published link 0) (none_falls s).seen (k.seen link);
      published = (none_falls s).published;
    }

    take_keeps : (o : Option ℕ) → IsOfPlan plan (after_take o s) → NoneFalls s (after_take o s) → KeepsBounds plan limit (after_take o s)
    take_keeps None of f = k
    take_keeps (Some link) of f = record {
      lengths = of;
      within = k.within;
      seen = set_all (λ j n. n ≤ get_or s.published j 0) s.seen link (get_or s.published link 0) k.seen (same_le (get_or s.published link 0));
      behind = k.behind;
      ahead = λ n end l less at. omega (arith, k.ahead n end l less at, f.seen l);
    }

    -- a run

    module _ (node : Position) (count : ℕ) where
      abbrev h : HorizonRec
      h = horizon_of plan limit s.seen node

      abbrev before : Slot
      before = get_or s.clocks node 0

      run_falls : NoneFalls s (after_run plan limit node count s)
      run_falls = record {
        clocks = set_all (λ j n. get_or s.clocks j 0 ≤ n) s.clocks node (clock_after h count before) (none_falls s).clocks (clock_rises h count before);
        seen = (none_falls s).seen;
        published = (none_falls s).published;
      }

      not_past : (end link : ℕ) → end < ENDS → incoming plan node end ≡ Some link → clock_after h count before ≤ get_or s.seen link 0 + delay_of plan link
      not_past end link less at =
          clock_within h (horizon_at (seen_of_link plan s.seen link))
          (below_end h end (seen_of_link plan s.seen link) (link_at_end plan limit s.seen node end link less at)) count before (k.ahead node end link less at)

      run_keeps : IsOfPlan plan (after_run plan limit node count s) → KeepsBounds plan limit (after_run plan limit node count s)
      run_keeps of = record {
        lengths = of;
        within = set_all (λ j n. n ≤ limit) s.clocks node (clock_after h count before) k.within (clock_within h limit (below_limit h) count before (k.within node));
        seen = k.seen;
        behind = λ l d at. omega (arith, k.behind l d at, run_falls.clocks d.from);
        ahead = λ n end l less at.
            set_all (λ j clock. (end l : ℕ) → end < ENDS → incoming plan j end ≡ Some l → clock ≤ get_or s.seen l 0 + delay_of plan l)
            s.clocks node (clock_after h count before) k.ahead not_past n end l less at;
      }

    -- a send

    module _ (node : Position) where
      abbrev Leaves : ℕ → Type 0
      Leaves link = (d : Arc) × (slice_get (arcs plan) link ≡ Some d) × (d.from ≡ node)

      leaves : (end link : ℕ) → outgoing plan node end ≡ Some link → Leaves link
      leaves end link at =
          let l = leads-from plan node end link at in
          (l.arc, l.here, l.from)

      published_before : (link : ℕ) → Leaves link → get_or s.published link 0 ≤ get_or s.clocks node 0
      published_before link l = subst (λ n. get_or s.published link 0 ≤ get_or s.clocks n 0) l.2 (k.behind link l.0 l.1)

      send_falls : (o : Option ℕ) → ((link : ℕ) → o ≡ Some link → Leaves link) → NoneFalls s (after_send o (get_or s.clocks node 0) s)
      send_falls None there = none_falls s
      send_falls (Some link) there = record {
        clocks = (none_falls s).clocks;
        seen = (none_falls s).seen;
        published = set_all (λ j n. get_or s.published j 0 ≤ n) s.published link (get_or s.clocks node 0) (none_falls s).published (published_before link (there link refl));
      }

      by_it : (link : ℕ) → Leaves link → (d : Arc) → slice_get (arcs plan) link ≡ Some d → get_or s.clocks node 0 ≤ get_or s.clocks d.from 0
      by_it link l d at =
          let same : l.0 ≡ d = same_Some l.0 d (sym l.1 ∙ at) in
          let from : node ≡ d.from = sym l.2 ∙ ap (λ (e : Arc). e.from) same in
          subst (λ n. get_or s.clocks node 0 ≤ get_or s.clocks n 0) from (same_le (get_or s.clocks node 0))

      send_keeps : (o : Option ℕ) → ((link : ℕ) → o ≡ Some link → Leaves link) → IsOfPlan plan (after_send o (get_or s.clocks node 0) s)
          → NoneFalls s (after_send o (get_or s.clocks node 0) s) → KeepsBounds plan limit (after_send o (get_or s.clocks node 0) s)
      send_keeps None there of f = k
      send_keeps (Some link) there of f = record {
        lengths = of;
        within = k.within;
        seen = λ l. omega (arith, k.seen l, f.published l);
        behind = set_all (λ j n. (d : Arc) → slice_get (arcs plan) j ≡ Some d → n ≤ get_or s.clocks d.from 0)
            s.published link (get_or s.clocks node 0) k.behind (by_it link (there link refl));
        ahead = k.ahead;
      }

pub no_step_falls : NoStepFalls
no_step_falls plan limit s (Take node end) k = take_falls plan limit s k (incoming plan node end)
no_step_falls plan limit s (Run node count) k = run_falls plan limit s k node count
no_step_falls plan limit s (Send node end) k = send_falls plan limit s k node (outgoing plan node end) (leaves plan limit s k node end)

pub steps_keep_bounds : StepsKeepBounds
steps_keep_bounds plan limit s (Take node end) k =
    take_keeps plan limit s k (incoming plan node end) (lengths_stay plan limit s (Take node end) k.lengths) (take_falls plan limit s k (incoming plan node end))
steps_keep_bounds plan limit s (Run node count) k = run_keeps plan limit s k node count (lengths_stay plan limit s (Run node count) k.lengths)
steps_keep_bounds plan limit s (Send node end) k =
    send_keeps plan limit s k node (outgoing plan node end) (leaves plan limit s k node end) (lengths_stay plan limit s (Send node end) k.lengths)
    (send_falls plan limit s k node (outgoing plan node end) (leaves plan limit s k node end))

-- ---- All steps

none_above : (n j m : ℕ) → get_or {A = ℕ} (replicate n 0) j 0 ≤ m
none_above n j m = omega (arith, zeros n j)

pub bounds_at_start : (plan : PlanRec) (limit : Slot) → KeepsBounds plan limit (schedule_at_start plan)
bounds_at_start plan limit = record {
  lengths = lengths_at_start plan;
  within = λ n. none_above (length plan.nodes) n limit;
  seen = λ l. none_above (arc_count plan) l _;
  behind = λ l d at. none_above (arc_count plan) l _;
  ahead = λ n end l less at. none_above (length plan.nodes) n _;
}

pub more_keep : (plan : PlanRec) (limit : Slot) (steps : List Step) (s : ScheduleRec) → KeepsBounds plan limit s → KeepsBounds plan limit (after_steps plan limit s steps)
unfolding after_steps
more_keep plan limit [] s k = k
more_keep plan limit (step ∷ steps) s k = more_keep plan limit steps (after_step plan limit s step) (steps_keep_bounds plan limit s step k)

pub schedules_keep_bounds : SchedulesKeepBounds
schedules_keep_bounds plan limit steps = more_keep plan limit steps (schedule_at_start plan) (bounds_at_start plan limit)
