-- The nodes and the lanes of a plan before the first slot.
use Rattle.std.proofs.Common.{◌≡◌, ℕ, zero, suc, Option, Some, None, List, length, map, replicate, get_or, refl, sym, ap, ◌∙◌, subst}
use Rattle.xs_base.specs.Numbers.{Slot}
use Rattle.sys_plan.specs.Plan.{PlanRec, arc_count, outgoing, ends_out}
use Rattle.sys_plan.specs.declared.system_plan.TheConstants.{ENDS}
use Rattle.ahead_limits.specs.Schedule.{schedule_at_start, horizon_of}
use Rattle.play_model.specs.Play.{number_by}
use Rattle.node_runners.specs.Runner.{RunnerRec, new_runner}
use Rattle.plan_lanes.specs.declared.lane.Lane.{Lane}
use Rattle.plan_lanes.specs.Lanes.{AllAt, published_at, IsRunner, IsNewLane, clocks_of, seen_of, published_of, numbers_of, AreAt}
use Rattle.plan_lanes.proofs.Places.{map_none}

none_at : (count k : ℕ) → let none : ℕ = 0 in get_or (replicate count none) k none ≡ none
none_at zero k = refl
none_at (suc count) zero = refl
none_at (suc count) (suc k) = none_at count k

none_by : (count : ℕ) (x : Option ℕ) → number_by (replicate count 0) x ≡ 0
none_by count None = refl
none_by count (Some k) = none_at count k

none_published : (plan : PlanRec) (count n : ℕ) → published_at plan (replicate count 0) n ≡ replicate ENDS 0
none_published plan count n = λ i. map (λ end. none_by count (outgoing plan n end) i) (ends_out plan n)

module _ (plan : PlanRec) (limit : Slot) (runners : List RunnerRec) (lanes : List Lane)
    (node_count : length runners ≡ length plan.nodes) (nodes : AllAt (λ n r. r ≡ new_runner plan limit n) runners)
    (link_count : length lanes ≡ arc_count plan) (links : AllAt (IsNewLane plan) lanes) where
  none_seen : seen_of lanes ≡ replicate (arc_count plan) 0
  none_seen = map_none (λ (l : Lane). l.r.got) lanes (λ k l below. (links k l below).seen_none) ∙ ap (λ n. replicate n 0) link_count

  none_sent : published_of lanes ≡ replicate (arc_count plan) 0
  none_sent = map_none (λ (l : Lane). l.log.published) lanes (λ k l below. (links k l below).published_none) ∙ ap (λ n. replicate n 0) link_count

  none_ran : clocks_of runners ≡ replicate (length plan.nodes) 0
  none_ran = map_none (λ (r : RunnerRec). r.clock) runners (λ n r below. ap (λ (x : RunnerRec). x.clock) (nodes n r below)) ∙ ap (λ n. replicate n 0) node_count

  pub starts_at : AreAt plan limit runners lanes
  starts_at = record {
    node_count = node_count;
    link_count = link_count;
    each_node = λ n r below. subst (λ (x : RunnerRec). IsRunner plan limit (seen_of lanes) (published_of lanes) n x) (sym (nodes n r below)) (record {
      of_plan = refl;
      node_is = refl;
      horizon_is = ap (λ (ns : List Slot). horizon_of plan limit ns n) (sym none_seen);
      published_is = sym (ap (λ (ns : List Slot). published_at plan ns n) none_sent ∙ none_published plan (arc_count plan) n);
    });
    each_lane = λ k l below. (links k l below).lane_is;
  }

  pub starts_as : numbers_of runners lanes ≡ schedule_at_start plan
  starts_as = λ i. record { clocks = none_ran i; seen = none_seen i; published = none_sent i }
