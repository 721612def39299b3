-- A run at its limit: each node, and what each arc has carried.
use Rattle.std.proofs.Common.{◌≡◌, ℕ, zero, suc, ◌<◌, Some, None, List, [], ◌∷◌, length, map, get_or, slice_get, refl, sym, ap, ◌∙◌, subst, arith}
use Rattle.std.specs.Prelude.{All}
use Rattle.std.proofs.lemmas.List.{get_or-map, length-map}
use Rattle.std.proofs.lemmas.Option.{none-some, same_Some, slice_get-get_or, get_or_from_slice_get, slice_get_within}
use Rattle.xs_base.specs.Numbers.{Slot, Position, LinkNumber}
use Rattle.xs_base.specs.declared.entry.Entry.{Entry}
use Rattle.sys_plan.specs.Plan.{PlanRec, Arc, arcs, arc_count}
use Rattle.sys_plan.proofs.Routes.{within}
use Rattle.serial_model.specs.Serial.{history}
use Rattle.trace_model.specs.Trace.{tokens_sent, credits_sent}
use Rattle.ahead_limits.specs.Horizon.{HorizonRec}
use Rattle.node_runners.specs.Runner.{RunnerRec}
use Rattle.node_runners.specs.Busy.{HasSteppedBusy}
use Rattle.finished_runs.specs.Limit.{Totals, HasRun, HasSent, AreAtLimit}
use Rattle.plan_lanes.specs.declared.lane.Lane.{Lane}
use Rattle.plan_lanes.specs.Lanes.{IsRunner, IsLane, seen_of, published_of}
use Rattle.round_laws.specs.Rounds.{round_clocks, round_clock}
use Rattle.node_rounds.specs.declared.seat.Seat.{Seat}
use Rattle.node_rounds.specs.Seats.{told}
use Rattle.node_rounds.specs.Rounds.{all_told, AreAfter}
use Rattle.node_rounds.specs.Parts.{runner_of, sent_by}
use Rattle.node_rounds.proofs.Taking.{same_limit}

-- what stands in a list of what is made of each was made of one
from_map : {X Y : Type 0} (f : X → Y) (xs : List X) (n : ℕ) (y : Y) → slice_get (map f xs) n ≡ Some y → (x : X) × (slice_get xs n ≡ Some x) × (f x ≡ y)
from_map f [] n y here = absurd (none-some y here)
from_map f (x ∷ xs) zero y here = (x, refl, same_Some (f x) y here)
from_map f (x ∷ xs) (suc n) y here = from_map f xs n y here

abbrev no_arc : Arc
no_arc = record { from = 0; from_end = 0; to = 0; to_end = 0; delay = 0; gap = 0; joins = None }

module _ (plan : PlanRec) (limit : Slot) (rounds : ℕ) (seats : List Seat) (lanes : List Lane) (after : AreAfter plan limit rounds seats lanes)
    (all : (n : Position) → n < length plan.nodes → round_clock plan limit n rounds ≡ limit) where
  -- ---- The nodes

  module _ (n : ℕ) (seat : Seat) (here : slice_get seats n ≡ Some seat) where
    below : n < length (all_told seats)
    below = omega (arith, slice_get_within seats n seat here, length-map seats told)

    told_here : get_or (all_told seats) n (told seat) ≡ told seat
    told_here =
        get_or-map told seats n seat (told seat) (slice_get_within seats n seat here) ∙ ap told (get_or_from_slice_get seats n seat seat here)

    is_runner : IsRunner plan limit (seen_of lanes) (published_of lanes) n (told seat)
    is_runner = subst (IsRunner plan limit (seen_of lanes) (published_of lanes) n) told_here (after.between.are_at.each_node n (told seat) below)

    clock_is : seat.runner.clock ≡ limit
    clock_is =
        let clock_of : RunnerRec → ℕ = λ r. r.clock in
        sym (get_or-map clock_of (all_told seats) n (told seat) 0 below ∙ ap clock_of told_here)
        ∙ ap (λ (ns : List Slot). get_or ns n 0) after.clocks
        ∙ all n (omega (arith, below, after.between.are_at.node_count))

    has_run : HasRun plan limit n seat.runner
    has_run = record { plan_is = is_runner.of_plan; node = is_runner.node_is; clock = clock_is }

    limit_is : seat.runner.horizon.limit ≡ limit
    limit_is = sym (same_limit seat.runner.horizon seat.handed.items) ∙ ap (λ (h : HorizonRec). h.limit) is_runner.horizon_is

  each_node : (n : Position) (runner : RunnerRec) → slice_get (map runner_of seats) n ≡ Some runner → HasRun plan limit n runner
  each_node n runner here =
      let seat = from_map runner_of seats n runner here in
      subst (HasRun plan limit n) seat.2 (has_run n seat.0 seat.1)

  all_of : (P : RunnerRec → Type 0) → ((n : ℕ) (seat : Seat) → slice_get seats n ≡ Some seat → P seat.runner) → All P (map runner_of seats)
  all_of P each n d h =
      let inside : n < length (map runner_of seats) = h in
      let seat = from_map runner_of seats n (get_or (map runner_of seats) n d) (slice_get-get_or (map runner_of seats) n d inside) in
      subst P seat.2 (each n seat.0 seat.1)

  pub all_limits : All (λ (r : RunnerRec). r.horizon.limit ≡ limit) (map runner_of seats)
  all_limits = all_of (λ (r : RunnerRec). r.horizon.limit ≡ limit) limit_is

  pub all_busy : All HasSteppedBusy (map runner_of seats)
  all_busy = all_of HasSteppedBusy
      (λ n seat here. subst (λ (s : Seat). HasSteppedBusy s.runner) (get_or_from_slice_get seats n seat seat here) (after.between.busy n seat (slice_get_within seats n seat here)))

  -- ---- The arcs

  module _ (link : ℕ) (lane : Lane) (here : slice_get lanes link ≡ Some lane) where
    lane_below : link < length lanes
    lane_below = slice_get_within lanes link lane here

    lane_here : get_or lanes link lane ≡ lane
    lane_here = get_or_from_slice_get lanes link lane lane here

    is_lane : IsLane plan link lane
    is_lane = subst (IsLane plan link) lane_here (after.between.are_at.each_lane link lane lane_below)

    arc_below : link < arc_count plan
    arc_below = omega (arith, lane_below, after.between.are_at.link_count)

    published_is : lane.log.published ≡ limit
    published_is =
        let of_lane : Lane → ℕ = λ l. l.log.published in
        let of_arc : Arc → ℕ = λ d. get_or (round_clocks plan limit rounds) d.from 0 in
        let arc = get_or (arcs plan) link no_arc in
        let there : slice_get (arcs plan) link ≡ Some arc = slice_get-get_or (arcs plan) link no_arc arc_below in
        sym (get_or-map of_lane lanes link lane 0 lane_below ∙ ap of_lane lane_here)
        ∙ ap (λ (ns : List Slot). get_or ns link 0) after.published
        ∙ get_or-map of_arc (arcs plan) link no_arc 0 arc_below
        ∙ all arc.from (within plan after.between.plan_is link arc there).from

    has_sent : HasSent plan limit link (sent_by lane)
    has_sent =
        let carried : history lane.log.run lane.log.number 0 lane.log.published ≡ history plan link 0 limit = λ i. history (is_lane.of_plan i) (is_lane.number_is i) 0 (published_is i) in
        record {
          tokens = ap (λ (es : List Entry). tokens_sent es) carried;
          credits = ap (λ (es : List Entry). credits_sent es) carried;
        }

  each_link : (link : LinkNumber) (sent : Totals) → slice_get (map sent_by lanes) link ≡ Some sent → HasSent plan limit link sent
  each_link link sent here =
      let lane = from_map sent_by lanes link sent here in
      subst (HasSent plan limit link) lane.2 (has_sent link lane.0 lane.1)

  pub at_limit : AreAtLimit plan limit (map runner_of seats) (map sent_by lanes)
  at_limit = record {
    nodes = length-map seats runner_of ∙ sym (length-map seats told) ∙ after.between.are_at.node_count;
    each_node = each_node;
    links = length-map lanes sent_by ∙ after.between.are_at.link_count;
    each_link = each_link;
  }
