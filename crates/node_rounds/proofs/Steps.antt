-- One arc: its sender publishes what it has run, and what is published lies ready for its receiver.
use Rattle.std.proofs.Common.{◌≡◌, ℕ, ◌<◌, ◌≤◌, Option, Some, None, IsSome, List, [], ◌∷◌, ◌++◌, length, get_or, set, refl, sym, ap, ◌∙◌, subst, arith}
use Rattle.std.proofs.lemmas.List.{length-map, map-set}
use Rattle.std.proofs.lemmas.Option.{same_Some}
use Rattle.xs_base.specs.Numbers.{Slot}
use Rattle.xs_base.specs.declared.entry.Entry.{Entry}
use Rattle.sys_plan.specs.declared.system_plan.TheConstants.{ENDS}
use Rattle.sys_plan.specs.Plan.{PlanRec, arc_count, outgoing, incoming}
use Rattle.serial_model.specs.Serial.{history}
use Rattle.link_logs.specs.declared.answers.Got.{Got}
use Rattle.link_logs.specs.Logs.{emptied, looked}
use Rattle.ahead_limits.specs.Schedule.{ScheduleRec, after_take, after_send}
use Rattle.ahead_limits.specs.Horizon.{HorizonRec, seen_at, seen_to}
use Rattle.node_runners.specs.Runner.{RunnerRec}
use Rattle.node_runners.specs.Busy.{HasSteppedBusy}
use Rattle.plan_lanes.specs.declared.lane.Lane.{Lane}
use Rattle.plan_lanes.specs.Lanes.{IsRunner, IsLane, AreAt, numbers_of, clocks_of, seen_of, published_of}
use Rattle.plan_lanes.proofs.Steps.{own_runner, own_lane, sent_then, read_is_seen, send_goes, take_nothing, take_entries}
use Rattle.node_rounds.specs.declared.seat.Handed.{Handed}
use Rattle.node_rounds.specs.declared.seat.Seat.{Seat}
use Rattle.node_rounds.specs.Seats.{IsNext, AreNext, MayTake, told, heard, heard_all}
use Rattle.node_rounds.specs.Rounds.{all_told, IsBusySeat, AreBetween}
use Rattle.node_rounds.specs.Sends.{Sends, Takes}
use Rattle.node_rounds.proofs.Places.{all_set, at_map}
use Rattle.node_rounds.proofs.Taking.{heard_more, next_more}

-- ---- The numbers after a send and after a take

sent : (x : Option ℕ) (link : ℕ) (clock : Slot) (s after : ScheduleRec) → x ≡ Some link → after ≡ after_send x clock s → after ≡ record s { published = set s.published link clock }
sent x link clock s after here goes = goes ∙ ap (λ (y : Option ℕ). after_send y clock s) here

taken : (x : Option ℕ) (link : ℕ) (s after : ScheduleRec) → x ≡ Some link → after ≡ after_take x s → after ≡ record s { seen = set s.seen link (get_or s.published link 0) }
taken x link s after here goes = goes ∙ ap (λ (y : Option ℕ). after_take y s) here

-- a lane after a look
abbrev read_of : Lane → Got → Lane
read_of lane got = record lane { log = emptied lane.log; r = looked lane.log got lane.r }

module _ (plan : PlanRec) (limit : Slot) (seats : List Seat) (lanes : List Lane) (between : AreBetween plan limit seats lanes) where
  -- ---- A take of nothing

  module _ (link : ℕ) (lane : Lane) (lane_is : lane ≡ get_or lanes link lane) (link_below : link < arc_count plan) (node end : ℕ) (inside : end < ENDS) (here : incoming plan node end ≡ Some link) (got : Got) where
    pub takes_nothing : lane.log.published ≡ lane.r.got → Takes plan link limit seats lanes seats (set lanes link (read_of lane got))
    takes_nothing none =
        let goes = take_nothing plan limit (all_told seats) lanes between.are_at link lane lane_is link_below node end here inside got lane.log.published refl none in
        let numbers = taken (incoming plan node end) link (numbers_of (all_told seats) lanes) (numbers_of (all_told seats) (set lanes link (read_of lane got))) here goes.goes_on in
        record {
          between = record { plan_is = between.plan_is; small = between.small; are_at = goes.is_at; ready = between.ready; busy = between.busy };
          same_clocks = refl;
          same_published = ap (λ (s : ScheduleRec). s.published) numbers;
          seen = ap (λ (s : ScheduleRec). s.seen) numbers;
        }

  module _ (node : ℕ) (seat : Seat) (seat_is : seat ≡ get_or seats node seat) (there : node < length plan.nodes) where
    in_list : node < length seats
    in_list = omega (arith, there, between.are_at.node_count, length-map seats told)

    runner_is : told seat ≡ get_or (all_told seats) node (told seat)
    runner_is = at_map told seats node seat in_list seat_is

    own_ready : MayTake seat
    own_ready = subst MayTake (sym seat_is) (between.ready node seat in_list)

    own_busy : IsBusySeat seat
    own_busy = subst IsBusySeat (sym seat_is) (between.busy node seat in_list)

    pub own : IsRunner plan limit (seen_of lanes) (published_of lanes) node (told seat)
    own = own_runner plan limit (all_told seats) lanes between.are_at node (told seat) runner_is there

    -- the table with another seat there, for a node that has the same to take
    still : (next : Seat) (lanes_after : List Lane) → AreAt plan limit (set (all_told seats) node (told next)) lanes_after → MayTake next → IsBusySeat next → AreBetween plan limit (set seats node next) lanes_after
    still next lanes_after at ready busy = record {
      plan_is = between.plan_is;
      small = between.small;
      are_at = subst (λ (rs : List RunnerRec). AreAt plan limit rs lanes_after) (sym (map-set told seats node next)) at;
      ready = all_set MayTake seats node next between.ready ready;
      busy = all_set IsBusySeat seats node next between.busy busy;
    }

    module _ (link : ℕ) (lane : Lane) (lane_is : lane ≡ get_or lanes link lane) (link_below : link < arc_count plan) (end : ℕ) (inside : end < ENDS) where
      pub own_log : IsLane plan link lane
      own_log = own_lane plan limit (all_told seats) lanes between.are_at link lane lane_is link_below

      -- ---- A send

      module _ (here : outgoing plan node end ≡ Some link) where
        pub published_before : get_or seat.runner.published end 0 ≡ lane.log.published
        published_before = sent_then plan limit (all_told seats) lanes between.are_at link lane lane_is link_below node end here inside (told seat) runner_is there

        pub sends : (on : lane.log.published ≤ seat.runner.clock) (entries : List Entry)
            → Sends plan link node limit seats lanes
            (set seats node (record seat { runner = record seat.runner { published = set seat.runner.published end seat.runner.clock } }))
            (set lanes link (record { log = record lane.log { published = seat.runner.clock; entries = entries }; w = record lane.w { published = seat.runner.clock }; r = lane.r }))
        sends on entries =
            let next : Seat = record seat { runner = record seat.runner { published = set seat.runner.published end seat.runner.clock } } in
            let carrying : Lane = record { log = record lane.log { published = seat.runner.clock; entries = entries }; w = record lane.w { published = seat.runner.clock }; r = lane.r } in
            let goes = send_goes plan limit (all_told seats) lanes between.are_at link lane lane_is link_below node end here inside (told seat) runner_is there on entries
            (history plan link lane.log.published seat.runner.clock) refl in
            let numbers = sent (outgoing plan node end) link (get_or (clocks_of (all_told seats)) node 0) (numbers_of (all_told seats) lanes)
            (numbers_of (set (all_told seats) node (told next)) (set lanes link carrying)) here goes.goes_on in
            record {
              between = still next (set lanes link carrying) goes.is_at own_ready own_busy;
              same_clocks = ap clocks_of (map-set told seats node next) ∙ ap (λ (s : ScheduleRec). s.clocks) numbers;
              published = ap (λ (s : ScheduleRec). s.published) numbers;
              same_seen = ap (λ (s : ScheduleRec). s.seen) numbers;
            }

      -- ---- A take

      module _ (here : incoming plan node end ≡ Some link) (got : Got) where
        -- what was found lies ready behind the rest
        module _ (x : Handed) (end_is : x.end ≡ end) (to_is : x.to ≡ lane.log.published) (less : lane.r.got < lane.log.published)
            (own_entries : x.batch.entries ≡ history plan link lane.r.got lane.log.published) (items : List Handed) (more : items ≡ seat.handed.items ++ x ∷ []) (next : Seat)
            (same : next.runner ≡ seat.runner) (lies : next.handed.items ≡ items) where
          abbrev horizon : HorizonRec
          horizon = heard_all seat.runner.horizon seat.handed.items

          seen_is : lane.r.got ≡ seen_at horizon end
          seen_is = read_is_seen plan limit (all_told seats) lanes between.are_at link lane lane_is link_below node end (told seat) runner_is there here inside

          told_next : told next ≡ record (told seat) { horizon = heard horizon x }
          told_next =
              let f : RunnerRec → List Handed → RunnerRec = λ r xs. record r { horizon = heard_all r.horizon xs } in
              let g : HorizonRec → RunnerRec = λ h. record seat.runner { horizon = h } in
              (λ i. f (same i) ((lies ∙ more) i)) ∙ ap g (heard_more seat.runner.horizon seat.handed.items x)

          hears : told next ≡ record (told seat) { horizon = record horizon { ends = set horizon.ends end (seen_to lane.log.published (get_or horizon.ends end None)) } }
          hears =
              let f : ℕ → ℕ → RunnerRec = λ e t. record seat.runner { horizon = record horizon { ends = set horizon.ends e (seen_to t (get_or horizon.ends e None)) } } in
              told_next ∙ (λ i. f (end_is i) (to_is i))

          is_next : IsNext seat.runner.plan seat.runner.node horizon x
          is_next =
              let its = own in
              let comes : incoming seat.runner.plan seat.runner.node x.end ≡ Some link
              = (λ i. incoming (its.of_plan i) (its.node_is i) (end_is i)) ∙ here in
              record {
                there = subst IsSome (sym comes) refl;
                on = omega (arith, less, to_is, seen_is, ap (seen_at horizon) end_is);
                own = λ k is. own_entries
                    ∙ (λ i. history (sym its.of_plan i) (same_link k comes is i) ((seen_is ∙ ap (seen_at horizon) (sym end_is)) i) (sym to_is i));
              }
            where
              same_link : (k : ℕ) → incoming seat.runner.plan seat.runner.node x.end ≡ Some link → incoming seat.runner.plan seat.runner.node x.end ≡ Some k → link ≡ k
              same_link k a b = same_Some link k (sym a ∙ b)

          may_take : MayTake next
          may_take =
              let all = next_more seat.runner.plan seat.runner.node seat.runner.horizon seat.handed.items x own_ready is_next in
              let by : (r : RunnerRec) → r ≡ seat.runner → (xs : List Handed) → xs ≡ seat.handed.items ++ x ∷ [] → AreNext r.plan r.node r.horizon xs
              = λ r r_is xs xs_is. subst (λ (q : RunnerRec). AreNext q.plan q.node q.horizon xs) (sym r_is) (subst (AreNext seat.runner.plan seat.runner.node seat.runner.horizon) (sym xs_is) all) in
              by next.runner same next.handed.items (lies ∙ more)

          pub takes_entries : Takes plan link limit seats lanes (set seats node next) (set lanes link (read_of lane got))
          takes_entries =
              let goes = take_entries plan limit (all_told seats) lanes between.are_at link lane lane_is link_below node end here inside got lane.log.published refl
              (told seat) runner_is there lane.log.published refl in
              let numbers = taken (incoming plan node end) link (numbers_of (all_told seats) lanes) (numbers_of (set (all_told seats) node _) (set lanes link (read_of lane got))) here goes.goes_on in
              let list_is = ap (λ (r : RunnerRec). set (all_told seats) node r) hears in
              record {
                between = still next (set lanes link (read_of lane got)) (subst (λ (rs : List RunnerRec). AreAt plan limit rs (set lanes link (read_of lane got))) (sym list_is) goes.is_at) may_take (subst HasSteppedBusy (sym same) own_busy);
                same_clocks = ap clocks_of (map-set told seats node next ∙ list_is) ∙ ap (λ (s : ScheduleRec). s.clocks) numbers;
                same_published = ap (λ (s : ScheduleRec). s.published) numbers;
                seen = ap (λ (s : ScheduleRec). s.seen) numbers;
              }
