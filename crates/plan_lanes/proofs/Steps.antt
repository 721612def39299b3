-- What each step of a schedule makes of the nodes and the lanes of a plan.
use Rattle.std.proofs.Common.{◌≡◌, ◌≢◌, ℕ, ◌<◌, ◌≤◌, Option, Some, None, option_map, List, [], length, map, get_or, set, refl, sym, ap, ◌∙◌, subst, arith}
use Rattle.std.proofs.lemmas.List.{get_or-set_same, get_or-set_other, length-set, length-map, get_or-map, map-set, set-get_or}
use Rattle.xs_base.specs.Numbers.{Slot}
use Rattle.xs_base.specs.declared.entry.Entry.{Entry}
use Rattle.sys_plan.specs.declared.Step.{Step}
use Rattle.sys_plan.specs.declared.Step.TheVariants.{Take, Run, Send}
use Rattle.sys_plan.specs.Plan.{PlanRec, arc_count, outgoing, incoming, delay_of}
use Rattle.sys_plan.specs.declared.system_plan.TheConstants.{ENDS}
use Rattle.serial_model.specs.Serial.{history}
use Rattle.link_logs.specs.declared.answers.Got.{Got}
use Rattle.link_logs.specs.Logs.{emptied, looked}
use Rattle.ahead_limits.specs.declared.horizon.Seen.{Seen}
use Rattle.ahead_limits.specs.Horizon.{HorizonRec, seen_to, seen_at, seen_by_end}
use Rattle.ahead_limits.specs.Schedule.{ScheduleRec, seen_of_link, horizon_of, clock_after, after_take, after_send, after_step}
use Rattle.play_model.specs.Play.{PlayedStep, number_by, sent_between, played_step}
use Rattle.node_runners.specs.Runner.{RunnerRec}
use Rattle.plan_lanes.specs.declared.lane.Lane.{Lane}
use Rattle.plan_lanes.specs.Lanes.{AllAt, published_at, IsRunner, IsLane, clocks_of, seen_of, published_of, numbers_of, AreAt}
use Rattle.plan_lanes.proofs.Places.{all_at_set}
use Rattle.sys_plan.proofs.Routes.{at-end-in, at-end-out, leaves-once, comes-once}
use Rattle.plan_lanes.proofs.Routes.{elsewhere, at_node}

-- an arc is not another one
not_some : (k link : ℕ) → Some k ≢ Some link → k ≢ link
not_some k link other is = other (ap (λ (j : ℕ). Some j) is)

-- ---- What a node is by the numbers of the arcs, where one of them changes

module _ (plan : PlanRec) (limit : Slot) (seen : List Slot) (node end link to : ℕ) (here : incoming plan node end ≡ Some link) (counted : link < length seen) where
  seen_apart : (x : Option ℕ) → x ≢ Some link → option_map (seen_of_link plan (set seen link to)) x ≡ option_map (seen_of_link plan seen) x
  seen_apart None other = refl
  seen_apart (Some k) other =
      let f : Slot → Option Seen = λ s. Some (record { delay = delay_of plan k; seen = s }) in
      ap f (get_or-set_other seen link k to 0 (not_some k link other))

  pub horizon_elsewhere : (m : ℕ) → m ≢ node → horizon_of plan limit (set seen link to) m ≡ horizon_of plan limit seen m
  horizon_elsewhere m apart =
      let f : List (Option Seen) → HorizonRec = λ ends. record { limit = limit; ends = ends } in
      ap f (elsewhere plan (incoming plan) (λ n m e f l. comes-once plan l n m e f) node end link here (option_map (seen_of_link plan seen)) (option_map (seen_of_link plan (set seen link to))) seen_apart m apart)

  noted : end < ENDS → get_or (horizon_of plan limit seen node).ends end None ≡ Some (seen_of_link plan seen link)
  noted inside = at-end-in plan node (λ e. option_map (seen_of_link plan seen) (incoming plan node e)) None end inside ∙ ap (option_map (seen_of_link plan seen)) here

  pub seen_here : end < ENDS → seen_at (horizon_of plan limit seen node) end ≡ get_or seen link 0
  seen_here inside = ap seen_by_end (noted inside)

  seen_now : end < ENDS → option_map (seen_of_link plan (set seen link to)) (Some link) ≡ seen_to to (get_or (horizon_of plan limit seen node).ends end None)
  seen_now inside =
      let f : Slot → Option Seen = λ s. Some (record { delay = delay_of plan link; seen = s }) in
      ap f (get_or-set_same seen link to 0 counted) ∙ sym (ap (seen_to to) (noted inside))

  pub horizon_here : end < ENDS → horizon_of plan limit (set seen link to) node
      ≡ record (horizon_of plan limit seen node) { ends = set (horizon_of plan limit seen node).ends end (seen_to to (get_or (horizon_of plan limit seen node).ends end None)) }
  horizon_here inside =
      let f : List (Option Seen) → HorizonRec = λ ends. record { limit = limit; ends = ends } in
      ap f (at_node plan (incoming plan) (λ n m e f l. comes-once plan l n m e f) node end link here (option_map (seen_of_link plan seen)) (option_map (seen_of_link plan (set seen link to))) seen_apart inside
      ∙ ap (λ (s : Option Seen). set (horizon_of plan limit seen node).ends end s) (seen_now inside))

module _ (plan : PlanRec) (published : List Slot) (node end link to : ℕ) (here : outgoing plan node end ≡ Some link) (counted : link < length published) where
  published_apart : (x : Option ℕ) → x ≢ Some link → number_by (set published link to) x ≡ number_by published x
  published_apart None other = refl
  published_apart (Some k) other = get_or-set_other published link k to 0 (not_some k link other)

  pub published_elsewhere : (m : ℕ) → m ≢ node → published_at plan (set published link to) m ≡ published_at plan published m
  published_elsewhere m apart =
      elsewhere plan (outgoing plan) (λ n m e f l. leaves-once plan l n m e f) node end link here (number_by published) (number_by (set published link to)) published_apart m apart

  pub published_then : end < ENDS → get_or (published_at plan published node) end 0 ≡ get_or published link 0
  published_then inside = at-end-out plan node (λ e. number_by published (outgoing plan node e)) 0 end inside ∙ ap (number_by published) here

  pub published_here : end < ENDS → published_at plan (set published link to) node ≡ set (published_at plan published node) end to
  published_here inside =
      at_node plan (outgoing plan) (λ n m e f l. leaves-once plan l n m e f) node end link here (number_by published) (number_by (set published link to)) published_apart inside
      ∙ ap (λ (s : Slot). set (published_at plan published node) end s) (get_or-set_same published link to 0 counted)

-- ---- The numbers of a list in which one place changed

same_number : {X : Type 0} (f : X → ℕ) (xs : List X) (k : ℕ) (x y : X) → k < length xs → x ≡ get_or xs k x → f y ≡ f x → map f (set xs k y) ≡ map f xs
same_number f xs k x y below is same =
    map-set f xs k y
    ∙ ap (λ (n : ℕ). set (map f xs) k n) (same ∙ ap f is ∙ sym (get_or-map f xs k x 0 below))
    ∙ set-get_or (map f xs) k 0

number_at : {X : Type 0} (f : X → ℕ) (xs : List X) (k : ℕ) (x : X) → k < length xs → x ≡ get_or xs k x → get_or (map f xs) k 0 ≡ f x
number_at f xs k x below is = get_or-map f xs k x 0 below ∙ ap f (sym is)

number_set : {X : Type 0} (f : X → ℕ) (xs : List X) (k : ℕ) (y : X) → k < length xs → get_or (map f (set xs k y)) k 0 ≡ f y
number_set f xs k y below = ap (λ (ns : List ℕ). get_or ns k 0) (map-set f xs k y) ∙ get_or-set_same (map f xs) k (f y) 0 (omega (arith, below, length-map xs f))

-- ---- The steps

pub record Goes (plan : PlanRec) (limit : Slot) (step : Step) (runners : List RunnerRec) (lanes : List Lane) (runners_after : List RunnerRec) (lanes_after : List Lane) (line : PlayedStep) : Type 0 where
  pub is_at : AreAt plan limit runners_after lanes_after
  pub goes_on : numbers_of runners_after lanes_after ≡ after_step plan limit (numbers_of runners lanes) step
  pub tells : line ≡ played_step plan step (numbers_of runners lanes) (numbers_of runners_after lanes_after)

by_numbers : (plan : PlanRec) (limit : Slot) (seen published seen_too published_too : List Slot) (runners : List RunnerRec) → seen_too ≡ seen → published_too ≡ published
    → AllAt (IsRunner plan limit seen published) runners → AllAt (IsRunner plan limit seen_too published_too) runners
by_numbers plan limit seen published seen_too published_too runners s p all =
    subst (λ (ns : List Slot). AllAt (IsRunner plan limit seen_too ns) runners) (sym p) (subst (λ (ns : List Slot). AllAt (IsRunner plan limit ns published) runners) (sym s) all)

module _ (plan : PlanRec) (limit : Slot) (runners : List RunnerRec) (lanes : List Lane) (at : AreAt plan limit runners lanes) where
  -- ---- The node and the lane of the step

  module _ (node : ℕ) (runner : RunnerRec) (runner_is : runner ≡ get_or runners node runner) (below : node < length plan.nodes) where
    node_below : node < length runners
    node_below = omega (arith, below, at.node_count)

    pub own_runner : IsRunner plan limit (seen_of lanes) (published_of lanes) node runner
    own_runner = subst (λ (r : RunnerRec). IsRunner plan limit (seen_of lanes) (published_of lanes) node r) (sym runner_is) (at.each_node node runner node_below)

    own_clock : get_or (clocks_of runners) node 0 ≡ runner.clock
    own_clock = number_at (λ (r : RunnerRec). r.clock) runners node runner node_below runner_is

    pub run_goes : (count steps number : ℕ) → number ≡ clock_after runner.horizon count runner.clock
        → Goes plan limit (Run node count) runners lanes (set runners node (record runner { clock = clock_after runner.horizon count runner.clock; stepped = steps })) lanes (record { step = Run node count; number = number; entries = [] })
    run_goes count steps number number_is =
        let own = own_runner in
        let clock = clock_after runner.horizon count runner.clock in
        let after : RunnerRec = record runner { clock = clock; stepped = steps } in
        let P : ℕ → RunnerRec → Type 0 = IsRunner plan limit (seen_of lanes) (published_of lanes) in
        let clock_is : clock ≡ clock_after (horizon_of plan limit (seen_of lanes) node) count (get_or (clocks_of runners) node 0)
        = λ i. clock_after (own.horizon_is i) count (sym own_clock i) in
        let clocks : clocks_of (set runners node after) ≡ set (clocks_of runners) node (clock_after (horizon_of plan limit (seen_of lanes) node) count (get_or (clocks_of runners) node 0))
        = map-set (λ (r : RunnerRec). r.clock) runners node after ∙ ap (λ (t : Slot). set (clocks_of runners) node t) clock_is in
        let number_then : number ≡ get_or (clocks_of (set runners node after)) node 0
        = number_is ∙ sym (number_set (λ (r : RunnerRec). r.clock) runners node after node_below) in
        record {
          is_at = record {
            node_count = length-set runners node after ∙ at.node_count;
            link_count = at.link_count;
            each_node = all_at_set P P runners node after at.each_node (λ m r apart h. h) (record { of_plan = own.of_plan; node_is = own.node_is; horizon_is = own.horizon_is; published_is = own.published_is });
            each_lane = at.each_lane;
          };
          goes_on = λ i. record { clocks = clocks i; seen = seen_of lanes; published = published_of lanes };
          tells = λ i. record { step = Run node count; number = number_then i; entries = [] };
        }

  module _ (link : ℕ) (lane : Lane) (lane_is : lane ≡ get_or lanes link lane) (link_below : link < arc_count plan) where
    lane_below : link < length lanes
    lane_below = omega (arith, link_below, at.link_count)

    pub own_lane : IsLane plan link lane
    own_lane = subst (λ (l : Lane). IsLane plan link l) (sym lane_is) (at.each_lane link lane lane_below)

    pub seen_below : link < length (seen_of lanes)
    seen_below = omega (arith, lane_below, length-map lanes (λ (l : Lane). l.r.got))

    pub published_below : link < length (published_of lanes)
    published_below = omega (arith, lane_below, length-map lanes (λ (l : Lane). l.log.published))

    pub own_seen : get_or (seen_of lanes) link 0 ≡ lane.r.got
    own_seen = number_at (λ (l : Lane). l.r.got) lanes link lane lane_below lane_is

    pub own_published : get_or (published_of lanes) link 0 ≡ lane.log.published
    own_published = number_at (λ (l : Lane). l.log.published) lanes link lane lane_below lane_is

    -- what a node has seen of its link is what the end that reads has read
    pub read_is_seen : (node end : ℕ) (runner : RunnerRec) → runner ≡ get_or runners node runner → node < length plan.nodes → incoming plan node end ≡ Some link → end < ENDS → lane.r.got ≡ seen_at runner.horizon end
    read_is_seen node end runner runner_is below here inside =
        sym own_seen
        ∙ sym (seen_here plan limit (seen_of lanes) node end link 0 here seen_below inside)
        ∙ ap (λ (h : HorizonRec). seen_at h end) (sym (own_runner node runner runner_is below).horizon_is)

    -- ---- A take

    module _ (node end : ℕ) (here : incoming plan node end ≡ Some link) (inside : end < ENDS) (got : Got) (number : ℕ) (number_is : number ≡ lane.log.published) where
      abbrev taken : Lane
      taken = record lane { log = emptied lane.log; r = looked lane.log got lane.r }

      seen_then : seen_of (set lanes link taken) ≡ set (seen_of lanes) link lane.log.published
      seen_then = map-set (λ (l : Lane). l.r.got) lanes link taken

      published_stays : published_of (set lanes link taken) ≡ published_of lanes
      published_stays = same_number (λ (l : Lane). l.log.published) lanes link lane taken lane_below lane_is refl

      still_lane : IsLane plan link taken
      still_lane =
          let own = own_lane in
          record {
            of_plan = own.of_plan;
            number_is = own.number_is;
            open_is = own.open_is;
            writes = record { run = own.writes.run; number = own.writes.number; published = own.writes.published; cause = own.writes.cause };
            reads = record {
              run = own.reads.run;
              number = own.reads.number;
              base = refl;
              published = omega arith;
            };
          }

      heard_by : (runners_after : List RunnerRec) → length runners_after ≡ length plan.nodes → clocks_of runners_after ≡ clocks_of runners
          → AllAt (IsRunner plan limit (set (seen_of lanes) link lane.log.published) (published_of lanes)) runners_after
          → Goes plan limit (Take node end) runners lanes runners_after (set lanes link taken) (record { step = Take node end; number = number; entries = [] })
      heard_by runners_after counted clocks all =
          let seen_by : seen_of (set lanes link taken) ≡ set (seen_of lanes) link (get_or (published_of lanes) link 0)
          = seen_then ∙ ap (λ (t : Slot). set (seen_of lanes) link t) (sym own_published) in
          let number_then : number ≡ number_by (seen_of (set lanes link taken)) (incoming plan node end)
          = number_is ∙ sym (number_set (λ (l : Lane). l.r.got) lanes link taken lane_below) ∙ sym (ap (number_by (seen_of (set lanes link taken))) here) in
          let numbers_then : numbers_of runners_after (set lanes link taken) ≡ after_take (Some link) (numbers_of runners lanes)
          = λ i. record { clocks = clocks i; seen = seen_by i; published = published_stays i } in
          record {
            is_at = record {
              node_count = counted;
              link_count = length-set lanes link taken ∙ at.link_count;
              each_node = by_numbers plan limit _ _ _ _ runners_after seen_then published_stays all;
              each_lane = all_at_set (IsLane plan) (IsLane plan) lanes link taken at.each_lane (λ k l apart h. h) still_lane;
            };
            goes_on = numbers_then ∙ sym (ap (λ (x : Option ℕ). after_take x (numbers_of runners lanes)) here);
            tells = λ i. record { step = Take node end; number = number_then i; entries = [] };
          }

      -- there was nothing that was not seen
      pub take_nothing : lane.log.published ≡ lane.r.got
          → Goes plan limit (Take node end) runners lanes runners (set lanes link taken) (record { step = Take node end; number = number; entries = [] })
      take_nothing none =
          let seen_stays : set (seen_of lanes) link lane.log.published ≡ seen_of lanes
          = ap (λ (t : Slot). set (seen_of lanes) link t) (none ∙ sym own_seen) ∙ set-get_or (seen_of lanes) link 0 in
          heard_by runners at.node_count refl (by_numbers plan limit _ _ _ _ runners seen_stays refl at.each_node)

      pub take_entries : (runner : RunnerRec) → runner ≡ get_or runners node runner → node < length plan.nodes → (to : ℕ) → to ≡ lane.log.published
          → Goes plan limit (Take node end) runners lanes
          (set runners node (record runner { horizon = record runner.horizon { ends = set runner.horizon.ends end (seen_to to (get_or runner.horizon.ends end None)) } }))
          (set lanes link taken) (record { step = Take node end; number = number; entries = [] })
      take_entries runner runner_is below to to_is =
          let own = own_runner node runner runner_is below in
          let hears : Slot → HorizonRec → HorizonRec = λ t h. record h { ends = set h.ends end (seen_to t (get_or h.ends end None)) } in
          let after : RunnerRec = record runner { horizon = hears to runner.horizon } in
          let in_list : node < length runners = omega (arith, below, at.node_count) in
          let P : ℕ → RunnerRec → Type 0 = IsRunner plan limit (seen_of lanes) (published_of lanes) in
          let Q : ℕ → RunnerRec → Type 0 = IsRunner plan limit (set (seen_of lanes) link lane.log.published) (published_of lanes) in
          let horizon_then : hears to runner.horizon ≡ horizon_of plan limit (set (seen_of lanes) link lane.log.published) node
          = (λ i. hears (to_is i) (own.horizon_is i)) ∙ sym (horizon_here plan limit (seen_of lanes) node end link lane.log.published here seen_below inside) in
          heard_by (set runners node after) (length-set runners node after ∙ at.node_count)
          (same_number (λ (r : RunnerRec). r.clock) runners node runner after in_list runner_is refl)
          (all_at_set P Q runners node after at.each_node
          (λ m r apart h. record {
            of_plan = h.of_plan;
            node_is = h.node_is;
            horizon_is = h.horizon_is ∙ sym (horizon_elsewhere plan limit (seen_of lanes) node end link lane.log.published here seen_below m apart);
            published_is = h.published_is;
          })
          (record { of_plan = own.of_plan; node_is = own.node_is; horizon_is = horizon_then; published_is = own.published_is }))

    -- ---- A send

    module _ (node end : ℕ) (here : outgoing plan node end ≡ Some link) (inside : end < ENDS) (runner : RunnerRec) (runner_is : runner ≡ get_or runners node runner) (below : node < length plan.nodes) where
      pub sent_then : get_or runner.published end 0 ≡ lane.log.published
      sent_then =
          ap (λ (ns : List Slot). get_or ns end 0) (own_runner node runner runner_is below).published_is
          ∙ published_then plan (published_of lanes) node end link 0 here published_below inside ∙ own_published

      module _ (on : lane.log.published ≤ runner.clock) (entries sent : List Entry) (sent_is : sent ≡ history plan link lane.log.published runner.clock) where
        abbrev published : Lane
        published = record { log = record lane.log { published = runner.clock; entries = entries }; w = record lane.w { published = runner.clock }; r = lane.r }

        abbrev sender : RunnerRec
        sender = record runner { published = set runner.published end runner.clock }

        lane_still : IsLane plan link published
        lane_still =
            let own = own_lane in
            record {
              of_plan = own.of_plan;
              number_is = own.number_is;
              open_is = own.open_is;
              writes = record { run = own.writes.run; number = own.writes.number; published = refl; cause = own.writes.cause };
              reads = record { run = own.reads.run; number = own.reads.number; base = own.reads.base; published = omega (arith, own.reads.published, on) };
            }

        pub send_goes : Goes plan limit (Send node end) runners lanes (set runners node sender) (set lanes link published) (record { step = Send node end; number = runner.clock; entries = sent })
        send_goes =
            let own = own_runner node runner runner_is below in
            let in_list : node < length runners = omega (arith, below, at.node_count) in
            let P : ℕ → RunnerRec → Type 0 = IsRunner plan limit (seen_of lanes) (published_of lanes) in
            let Q : ℕ → RunnerRec → Type 0 = IsRunner plan limit (seen_of lanes) (set (published_of lanes) link runner.clock) in
            let published_now : published_of (set lanes link published) ≡ set (published_of lanes) link runner.clock
            = map-set (λ (l : Lane). l.log.published) lanes link published in
            let seen_stays : seen_of (set lanes link published) ≡ seen_of lanes
            = same_number (λ (l : Lane). l.r.got) lanes link lane published lane_below lane_is refl in
            let clocks_stay : clocks_of (set runners node sender) ≡ clocks_of runners
            = same_number (λ (r : RunnerRec). r.clock) runners node runner sender in_list runner_is refl in
            let clock_is : runner.clock ≡ get_or (clocks_of runners) node 0 = sym (own_clock node runner runner_is below) in
            let published_by : published_of (set lanes link published) ≡ set (published_of lanes) link (get_or (clocks_of runners) node 0)
            = published_now ∙ ap (λ (t : Slot). set (published_of lanes) link t) clock_is in
            let numbers_then : numbers_of (set runners node sender) (set lanes link published) ≡ after_send (Some link) (get_or (clocks_of runners) node 0) (numbers_of runners lanes)
            = λ i. record { clocks = clocks_stay i; seen = seen_stays i; published = published_by i } in
            let last : get_or (published_of (set lanes link published)) link 0 ≡ runner.clock
            = number_set (λ (l : Lane). l.log.published) lanes link published lane_below in
            let after : ScheduleRec = numbers_of (set runners node sender) (set lanes link published) in
            let number_then : runner.clock ≡ number_by after.published (outgoing plan node end)
            = sym last ∙ sym (ap (number_by after.published) here) in
            let sent_by : sent ≡ sent_between plan (numbers_of runners lanes) after (Some link)
            = sent_is ∙ (λ i. history plan link (sym own_published i) (sym last i)) in
            let entries_then : sent ≡ sent_between plan (numbers_of runners lanes) after (outgoing plan node end)
            = sent_by ∙ sym (ap (λ (x : Option ℕ). sent_between plan (numbers_of runners lanes) after x) here) in
            let published_then_at : set runner.published end runner.clock ≡ published_at plan (set (published_of lanes) link runner.clock) node
            = ap (λ (ns : List Slot). set ns end runner.clock) own.published_is
            ∙ sym (published_here plan (published_of lanes) node end link runner.clock here published_below inside) in
            record {
              is_at = record {
                node_count = length-set runners node sender ∙ at.node_count;
                link_count = length-set lanes link published ∙ at.link_count;
                each_node = by_numbers plan limit _ _ _ _ (set runners node sender) seen_stays published_now
                    (all_at_set P Q runners node sender at.each_node
                    (λ m r apart h. record {
                      of_plan = h.of_plan;
                      node_is = h.node_is;
                      horizon_is = h.horizon_is;
                      published_is = h.published_is ∙ sym (published_elsewhere plan (published_of lanes) node end link runner.clock here published_below m apart);
                    })
                    (record { of_plan = own.of_plan; node_is = own.node_is; horizon_is = own.horizon_is; published_is = published_then_at }));
                each_lane = all_at_set (IsLane plan) (IsLane plan) lanes link published at.each_lane (λ k l apart h. h) lane_still;
              };
              goes_on = numbers_then ∙ sym (ap (λ (x : Option ℕ). after_send x (get_or (clocks_of runners) node 0) (numbers_of runners lanes)) here);
              tells = λ i. record { step = Send node end; number = number_then i; entries = entries_then i };
            }
