-- What the parts of a turn make of a worker.
use Rattle.std.proofs.Common.{◌≡◌, ℕ, ◌≤◌, Option, Some, None, List, [], ◌∷◌, slice_get, refl, sym, ap, ◌∙◌, subst, arith}
use Rattle.std.specs.List.{All, AllZip, AllByRecursion}
use Rattle.std.proofs.lemmas.List.Elements.{All-from_recursion}
use Rattle.std.proofs.lemmas.Option.{same_Some}
use Rattle.xs_base.specs.Numbers.{Slot, EndNumber, LinkNumber}
use Rattle.sys_plan.specs.Plan.{PlanRec, IsPlan, delay_of}
use Rattle.ahead_limits.specs.declared.horizon.Seen.{Seen}
use Rattle.ahead_limits.specs.Horizon.{HorizonRec, Sees, StopsAt, horizon_at}
use Rattle.node_runners.specs.declared.runner.Ran.{Ran}
use Rattle.node_runners.specs.declared.runner.Ran.TheVariants.{Slot as one_slot, Blocked, AtLimit}
use Rattle.node_runners.specs.Runner.{RunnerRec, Stops}
use Rattle.plan_cells.specs.declared.ends.Hand.{Hand}
use Rattle.plan_cells.specs.declared.ends.Outgoing.{Outgoing}
use Rattle.plan_cells.specs.declared.ends.Incoming.{Incoming}
use Rattle.plan_cells.specs.declared.ends.Ends.{Ends}
use Rattle.plan_cells.specs.Ends.{CellsRec}
use Rattle.core_workers.specs.Worker.{WorkerRec, IsInHand, IsHeard, Listens, Tells, RunsOn, IsWorker, StaysIncoming, StaysOutgoing, Tried, Told as Published, reach, Stays, Exchanged}
use Rattle.core_workers.proofs.Counting.{busy_by}
use Rattle.core_workers.proofs.Hearing.{fits_at}
use Rattle.core_workers.proofs.Passes.{all_zip_refl}
use Rattle.core_workers.proofs.Reaching.{reach_within, reach_below, reach_above}
use Rattle.core_workers.proofs.Routes.{comes_there}

-- ---- What is told of a node does not ask for all of it

pub listens_by : (cells : CellsRec) (a b : RunnerRec) (ends : List Incoming) → b.node ≡ a.node → b.horizon ≡ a.horizon → Listens cells a ends → Listens cells b ends
listens_by cells a b ends node horizon l = listens_with b.node b.horizon node horizon
  where
    from_a : Listens cells (record b { node = a.node; horizon = a.horizon }) ends
    from_a = record { places = l.places; fit = l.fit; heard = l.heard; no_others = l.no_others }

    listens_with : (n : ℕ) (h : HorizonRec) → n ≡ a.node → h ≡ a.horizon → Listens cells (record b { node = n; horizon = h }) ends
    listens_with n h same_node same_horizon =
        subst (λ m. Listens cells (record b { node = m; horizon = h }) ends) (sym same_node)
        (subst (λ (k : HorizonRec). Listens cells (record b { node = a.node; horizon = k }) ends) (sym same_horizon) from_a)

pub tells_by : (cells : CellsRec) (a b : RunnerRec) (ends : List Outgoing) → b.node ≡ a.node → b.published ≡ a.published → Tells cells a ends → Tells cells b ends
tells_by cells a b ends node published t = tells_with b.node b.published node published
  where
    from_a : Tells cells (record b { node = a.node; published = a.published }) ends
    from_a = record { places = t.places; fit = t.fit; told = t.told; all_ends = t.all_ends }

    tells_with : (n : ℕ) (ps : List Slot) → n ≡ a.node → ps ≡ a.published → Tells cells (record b { node = n; published = ps }) ends
    tells_with n ps same_node same_published =
        subst (λ m. Tells cells (record b { node = m; published = ps }) ends) (sym same_node)
        (subst (λ (k : List Slot). Tells cells (record b { node = a.node; published = k }) ends) (sym same_published) from_a)

-- ---- How far the node has run

seen_of_none : (plan : PlanRec) (link : LinkNumber) (seen got : Slot) (hand : Option Hand) → hand ≡ None → IsInHand plan link seen got hand → seen ≡ got
seen_of_none plan link seen got hand none is = subst (λ (h : Option Hand). IsInHand plan link seen got h) none is

module _ (cells : CellsRec) (is : IsPlan cells.plan) (runner : RunnerRec) (ends : List Incoming) (listens : Listens cells runner ends) (none_in_hand : All (λ (i : Incoming). i.hand ≡ None) ends) where
  -- what was seen of an arc is what was read of it
  seen_is_read : (k : ℕ) (i : Incoming) → slice_get ends k ≡ Some i → Sees runner.horizon i.end (record { delay = delay_of cells.plan i.link; seen = i.r.end.got })
  seen_is_read k i at =
      let heard = fits_at (IsHeard cells.plan runner.horizon) ends k i at listens.heard in
      let none = fits_at (λ (j : Incoming). j.hand ≡ None) ends k i at none_in_hand in
      let seen : heard.seen.seen ≡ i.r.end.got = seen_of_none cells.plan i.link heard.seen.seen i.r.end.got i.hand none heard.in_hand in
      let all : heard.seen ≡ record { delay = delay_of cells.plan i.link; seen = i.r.end.got } = λ j. record { delay = heard.delay j; seen = seen j } in
      heard.there ∙ ap (λ (s : Seen). Some (Some s)) all

  -- the end that reads the arc that comes to an end, of which this much was seen
  pub record ReadsThere (end : EndNumber) (s : Seen) : Type 0 where
    pub place : ℕ
    pub reader : Incoming
    pub at : slice_get ends place ≡ Some reader
    pub end_is : reader.end ≡ end
    pub same : s ≡ record { delay = delay_of cells.plan reader.link; seen = reader.r.end.got }

  pub reads_there : (end : EndNumber) (s : Seen) → Sees runner.horizon end s → ReadsThere end s
  reads_there end s sees =
      let other = listens.no_others end s sees in
      let comes = comes_there cells.plan is runner.node ends listens.places end other.0 other.1 in
      let is_read : Seen = record { delay = delay_of cells.plan comes.reader.link; seen = comes.reader.r.end.got } in
      let there : Sees runner.horizon end is_read = subst (λ e. Sees runner.horizon e is_read) comes.end_is (seen_is_read comes.place comes.reader comes.at) in
      record { place = comes.place; reader = comes.reader; at = comes.at; end_is = comes.end_is; same = same_Some _ _ (same_Some _ _ (sym sees ∙ there)) }

  module _ (within : runner.clock ≤ runner.horizon.limit) (ahead : (end : ℕ) (s : Seen) → Sees runner.horizon end s → runner.clock ≤ horizon_at s) where
    clock_above : runner.clock ≤ reach cells.plan runner.horizon.limit ends
    clock_above = reach_above cells.plan runner.horizon.limit runner.clock ends within
        (λ k i at. ahead i.end (record { delay = delay_of cells.plan i.link; seen = i.r.end.got }) (seen_is_read k i at))

    pub at_limit : runner.clock ≡ runner.horizon.limit → runner.clock ≡ reach cells.plan runner.horizon.limit ends
    at_limit at = omega (arith, at, clock_above, reach_within cells.plan runner.horizon.limit ends)

    pub at_stop : (end seen : ℕ) → StopsAt runner.horizon runner.clock end seen → runner.clock ≡ reach cells.plan runner.horizon.limit ends
    at_stop end seen stop =
        let reads = reads_there end stop.link stop.there in
        let below = reach_below cells.plan runner.horizon.limit ends reads.place reads.reader reads.at in
        omega (arith, stop.is_horizon, ap horizon_at reads.same, below, clock_above)

-- ---- The parts of a turn

abbrev pub worker : CellsRec → RunnerRec → Ends → WorkerRec
worker cells runner ends = record { cells = cells; runner = runner; ends = ends }

-- the logs were looked at: what the node has seen of its arcs changes, and the ends that read
pub record Heard (before : WorkerRec) (runner : RunnerRec) (ends : Ends) : Type 0 where
  pub listens : Listens before.cells runner ends.incoming.items
  pub rest : runner ≡ record before.runner { horizon = record before.runner.horizon { ends = runner.horizon.ends } }
  pub outgoing : ends.outgoing ≡ before.ends.outgoing
  pub stays : AllZip StaysIncoming before.ends.incoming.items ends.incoming.items

-- what the node has sent was published: up to which slots it is changes, and the ends that write
pub record Told (before : WorkerRec) (runner : RunnerRec) (ends : Ends) : Type 0 where
  pub tells : Tells before.cells runner ends.outgoing.items
  pub rest : runner ≡ record before.runner { published = runner.published }
  pub incoming : ends.incoming ≡ before.ends.incoming
  pub stays : AllZip StaysOutgoing before.ends.outgoing.items ends.outgoing.items

-- a turn of which only the last part may have wanted memory: the node has heard (`r1`, with `e1`), has run until something stopped it
-- (`r2`), and has told (`r3`, with `e2`)
pub record Turned (before : WorkerRec) (r1 : RunnerRec) (e1 : Ends) (stop : Ran) (r2 r3 : RunnerRec) (e2 : Ends) : Type 0 where
  pub start : IsWorker before
  pub heard : Heard before r1 e1
  pub tried : AllZip Tried before.ends.incoming.items e1.incoming.items
  pub ran : RunsOn r1 r2
  pub stops : Stops r2.horizon r2.clock stop
  pub within : r2.clock ≤ r2.horizon.limit
  pub ahead : (end : EndNumber) (s : Seen) → Sees r2.horizon end s → r2.clock ≤ horizon_at s
  pub told : Told (worker before.cells r2 e1) r3 e2

-- ---- Each part makes a worker of a worker

none_changes : (o : Outgoing) → StaysOutgoing o o
none_changes o = record { end = refl; link = refl; table = refl; rest = refl; published = omega arith }

same_writers : {w : WorkerRec} {runner : RunnerRec} {ends : Ends} → Heard w runner ends → ends.outgoing.items ≡ w.ends.outgoing.items
same_writers heard = λ i. (heard.outgoing i).items

pub heard_worker : {w : WorkerRec} {runner : RunnerRec} {ends : Ends} → IsWorker w → Heard w runner ends → IsWorker (worker w.cells runner ends)
heard_worker {w} {runner} {ends} is heard =
    let plan = ap (λ (r : RunnerRec). r.plan) heard.rest in
    let node = ap (λ (r : RunnerRec). r.node) heard.rest in
    record {
      plan_is = is.plan_is;
      of_plan = plan ∙ is.of_plan;
      listens = heard.listens;
      tells =
          subst (λ (v : List Outgoing). Tells w.cells runner v) (sym (same_writers heard))
          (tells_by w.cells w.runner runner w.ends.outgoing.items node (ap (λ (r : RunnerRec). r.published) heard.rest) is.tells);
      busy = busy_by w.runner runner plan node (ap (λ (r : RunnerRec). r.clock) heard.rest) (ap (λ (r : RunnerRec). r.stepped) heard.rest) is.busy;
    }

pub heard_stays : {w : WorkerRec} {runner : RunnerRec} {ends : Ends} → Heard w runner ends → Stays w (worker w.cells runner ends)
heard_stays {w} {runner} {ends} heard =
    let clock : runner.clock ≡ w.runner.clock = ap (λ (r : RunnerRec). r.clock) heard.rest in
    record {
      cells = refl;
      plan = ap (λ (r : RunnerRec). r.plan) heard.rest;
      node = ap (λ (r : RunnerRec). r.node) heard.rest;
      limit = ap (λ (r : RunnerRec). r.horizon.limit) heard.rest;
      clock = omega (arith, clock);
      incoming = heard.stays;
      outgoing =
          subst (λ (v : List Outgoing). AllZip StaysOutgoing w.ends.outgoing.items v) (sym (same_writers heard))
          (all_zip_refl StaysOutgoing none_changes w.ends.outgoing.items);
    }

pub ran_worker : {w : WorkerRec} {runner : RunnerRec} → IsWorker w → RunsOn w.runner runner → IsWorker (worker w.cells runner w.ends)
ran_worker {w} {runner} is ran =
    let node = ap (λ (r : RunnerRec). r.node) ran.rest in
    record {
      plan_is = is.plan_is;
      of_plan = ap (λ (r : RunnerRec). r.plan) ran.rest ∙ is.of_plan;
      listens = listens_by w.cells w.runner runner w.ends.incoming.items node (ap (λ (r : RunnerRec). r.horizon) ran.rest) is.listens;
      tells = tells_by w.cells w.runner runner w.ends.outgoing.items node (ap (λ (r : RunnerRec). r.published) ran.rest) is.tells;
      busy = ran.busy;
    }

pub ran_stays : {before w : WorkerRec} {runner : RunnerRec} → Stays before w → RunsOn w.runner runner → Stays before (worker w.cells runner w.ends)
ran_stays stays ran = record {
  cells = stays.cells;
  plan = ap (λ (r : RunnerRec). r.plan) ran.rest ∙ stays.plan;
  node = ap (λ (r : RunnerRec). r.node) ran.rest ∙ stays.node;
  limit = ap (λ (r : RunnerRec). r.horizon.limit) ran.rest ∙ stays.limit;
  clock = omega (arith, stays.clock, ran.on);
  incoming = stays.incoming;
  outgoing = stays.outgoing;
}

told_worker : {w : WorkerRec} {runner : RunnerRec} {ends : Ends} → IsWorker w → Told w runner ends → IsWorker (worker w.cells runner ends)
told_worker {w} {runner} {ends} is told =
    let plan = ap (λ (r : RunnerRec). r.plan) told.rest in
    let node = ap (λ (r : RunnerRec). r.node) told.rest in
    let same_readers : ends.incoming.items ≡ w.ends.incoming.items = λ i. (told.incoming i).items in
    record {
      plan_is = is.plan_is;
      of_plan = plan ∙ is.of_plan;
      listens =
          subst (λ (v : List Incoming). Listens w.cells runner v) (sym same_readers)
          (listens_by w.cells w.runner runner w.ends.incoming.items node (ap (λ (r : RunnerRec). r.horizon) told.rest) is.listens);
      tells = told.tells;
      busy = busy_by w.runner runner plan node (ap (λ (r : RunnerRec). r.clock) told.rest) (ap (λ (r : RunnerRec). r.stepped) told.rest) is.busy;
    }

-- ---- A whole turn

all_handed : (old new : List Incoming) → AllZip Tried old new → AllByRecursion (λ (i : Incoming). i.hand ≡ None) new
all_handed [] [] all = tt
all_handed [] (y ∷ new) all = absurd all
all_handed (x ∷ old) [] all = tt
all_handed (x ∷ old) (y ∷ new) all = (all.0.none_in_hand, all_handed old new all.1)

module _ {w : WorkerRec} {r1 : RunnerRec} {e1 : Ends} {stop : Ran} {r2 r3 : RunnerRec} {e2 : Ends} (t : Turned w r1 e1 stop r2 r3 e2) where
  worker_2 : IsWorker (worker w.cells r2 e1)
  worker_2 = ran_worker (heard_worker t.start t.heard) t.ran

  pub turned_worker : IsWorker (worker w.cells r3 e2)
  turned_worker = told_worker worker_2 t.told

  incoming_items : e2.incoming.items ≡ e1.incoming.items
  incoming_items = λ i. (t.told.incoming i).items

  horizon_3 : r3.horizon ≡ r2.horizon
  horizon_3 = ap (λ (r : RunnerRec). r.horizon) t.told.rest

  clock_3 : r3.clock ≡ r2.clock
  clock_3 = ap (λ (r : RunnerRec). r.clock) t.told.rest

  handed : All (λ (i : Incoming). i.hand ≡ None) e1.incoming.items
  handed = All-from_recursion (λ (i : Incoming). i.hand ≡ None) e1.incoming.items (all_handed w.ends.incoming.items e1.incoming.items t.tried)

  -- what was read is handed to the node still, and the same stops it
  pub turned_handed : All (λ (i : Incoming). i.hand ≡ None) e2.incoming.items
  turned_handed = subst (λ (v : List Incoming). All (λ (i : Incoming). i.hand ≡ None) v) (sym incoming_items) handed

  pub turned_on : w.runner.clock ≤ r3.clock
  turned_on = omega (arith, clock_3, ap (λ (r : RunnerRec). r.clock) t.heard.rest, t.ran.on)

  pub turned_stops : Stops r3.horizon r3.clock stop
  turned_stops = subst (λ (h : HorizonRec). Stops h r3.clock stop) (sym horizon_3) (subst (λ s. Stops r2.horizon s stop) (sym clock_3) t.stops)

  -- whatever stops the node, it has run as far as it may
  far : (ran : Ran) → Stops r2.horizon r2.clock ran → r2.clock ≡ reach w.cells.plan r2.horizon.limit e1.incoming.items
  far one_slot stops = absurd stops
  far (Blocked end seen) stops = at_stop w.cells t.start.plan_is r2 e1.incoming.items worker_2.listens handed t.within t.ahead end seen stops.1
  far AtLimit stops = at_limit w.cells t.start.plan_is r2 e1.incoming.items worker_2.listens handed t.within t.ahead stops

  pub exchanged : AllZip (Published r2.clock) e1.outgoing.items e2.outgoing.items → Exchanged w (worker w.cells r3 e2)
  exchanged told = record {
    tried = subst (λ (v : List Incoming). AllZip Tried w.ends.incoming.items v) (sym incoming_items) t.tried;
    ran =
        clock_3 ∙ far stop t.stops
        ∙ ap (λ (h : HorizonRec). reach w.cells.plan h.limit e1.incoming.items) (sym horizon_3)
        ∙ ap (λ (v : List Incoming). reach w.cells.plan r3.horizon.limit v) (sym incoming_items);
    told =
        subst (λ s. AllZip (Published s) w.ends.outgoing.items e2.outgoing.items) (sym clock_3)
        (subst (λ (v : List Outgoing). AllZip (Published r2.clock) v e2.outgoing.items) (same_writers t.heard) told);
  }
