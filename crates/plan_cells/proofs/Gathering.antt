-- The ends are taken back from the last arc on, and each log is as its end that writes has left it, and begins where its end that reads has read to.
use Rattle.std.proofs.Common.{◌≡◌, ℕ, zero, suc, ◌+◌, ◌<◌, ◌≤◌, Some, List, [], ◌∷◌, ◌++◌, length, map, take, get_or, slice_get, refl, sym, ap, ◌∙◌, subst, arith, inl, inr}
use Rattle.std.specs.Prelude.{reverse}
use mathlib.Core.Logic.{◌⊎◌}
use Rattle.std.specs.List.{AllByRecursion}
use Rattle.std.proofs.lemmas.Bool.{cases_eq}
use Rattle.std.proofs.lemmas.Option.{none-some, same_Some, slice_get_within}
use Rattle.std.proofs.lemmas.List.{append_assoc, append-nil, reverse-append, length-map, length-set, length_push, get_or-set_same, get_or-set_other, take_all}
use Rattle.xs_base.specs.Numbers.{Position, LinkNumber}
use Rattle.sys_plan.specs.Plan.{PlanRec, Arc, arcs, arc_count}
use Rattle.plan_routes.specs.declared.route.Route.{Route}
use Rattle.plan_routes.specs.Routes.{IsRouteOf}
use Rattle.link_logs.specs.Logs.{LogRec}
use Rattle.link_logs.specs.Entries.{between}
use Rattle.log_cells.specs.Ends.{CellRec, WritesTo, ReadsOf}
use Rattle.plan_stories.specs.Stories.{carried_at}
use Rattle.plan_stories.proofs.Stories.{between_is_history}
use Rattle.plan_cells.specs.declared.ends.Outgoing.{Outgoing}
use Rattle.plan_cells.specs.declared.ends.Incoming.{Incoming}
use Rattle.plan_cells.specs.declared.ends.Ends.{Ends}
use Rattle.plan_cells.specs.Ends.{LinkAt, leaves_at, comes_at, IsOutgoing, IsIncoming, AreEnds, IsLogOf, HasLeft, HasRead}
use Rattle.plan_cells.specs.Inside.{Lies, OutgoingLie, IncomingLie, from_of, to_of, from_end_of, to_end_of, handed, tables_of, cells_of, outgoing_items, incoming_items, outgoing_of, incoming_of, IsCellOf, AreCells}
use Rattle.plan_cells.proofs.Lists.{some_at, before_push, at_push, all_give, map_at, map_or_at}
use Rattle.plan_cells.proofs.Dealing.{take_next, length_first, some_lie, last_at, last_fit, fewer_lie}
use Rattle.plan_cells.proofs.AtEnds.{writes_to, reads_of}

-- ---- What was taken back from a list, and what is left

pub record Parted {X : Type 0} (Then : X → Type 0) (whole left : List X) : Type 0 where
  pub gone : List X
  pub parts : whole ≡ left ++ gone
  pub each : AllByRecursion Then gone

abbrev pub AllParted : {X : Type 0} → (X → Type 0) → List (List X) → List (List X) → Type 0
AllParted Then whole left = (n : Position) → Parted Then (get_or whole n []) (get_or left n [])

module _ {X : Type 0} where
  pub none_parted : (Then : X → Type 0) (whole : List (List X)) → AllParted Then whole whole
  none_parted Then whole n = record { gone = []; parts = sym (append-nil (get_or whole n [])); each = tt }

  module _ (Before Then : X → Type 0) (stays : (y : X) → Before y → Then y) (whole left : List (List X)) (m : Position) (x : X)
      (all : AllParted Before whole (handed left m x)) (fit : Then x) (inside : m < length left) where
    parted_at : (n : Position) → (n ≡ m) ⊎ (n ≡ m → ⊥) → Parted Then (get_or whole n []) (get_or left n [])
    parted_at n (inl same) =
        let xs = get_or left n [] in
        let old = all n in
        let is : get_or (handed left m x) n [] ≡ xs ++ x ∷ [] =
        ap (λ j. get_or (handed left m x) j []) same ∙ get_or-set_same left m (get_or left m [] ++ x ∷ []) [] inside ∙ (λ i. get_or left (sym same i) [] ++ x ∷ []) in
        record {
          gone = x ∷ old.gone;
          parts = old.parts ∙ (λ i. is i ++ old.gone) ∙ append_assoc xs (x ∷ []) old.gone;
          each = (fit, all_give stays old.gone old.each);
        }
    parted_at n (inr other) =
        let old = all n in
        let is : get_or (handed left m x) n [] ≡ get_or left n [] = get_or-set_other left m n (get_or left m [] ++ x ∷ []) [] other in
        record { gone = old.gone; parts = old.parts ∙ (λ i. is i ++ old.gone); each = all_give stays old.gone old.each }

    pub more_parted : AllParted Then whole left
    more_parted n = parted_at n (cases_eq n m)

  -- nothing is left
  pub all_parted : (Then : X → Type 0) (whole : List X) (left : List X) → Parted Then whole left → left ≡ [] → AllByRecursion Then whole
  all_parted Then whole left p none = subst (AllByRecursion Then) (sym (p.parts ∙ (λ i. none i ++ p.gone))) p.each

-- ---- The logs so far: those of the arcs from a number on

-- the log of an arc is among them, and this holds of it
pub record IsAmong (k : LinkNumber) (logs : List (LogRec PlanRec)) (link : LinkNumber) (Is : LogRec PlanRec → Type 0) : Type 0 where
  pub place : ℕ
  pub link_is : link ≡ k + place
  pub log : LogRec PlanRec
  pub log_at : slice_get logs place ≡ Some log
  pub is : Is log

among_stays : (k : LinkNumber) (logs : List (LogRec PlanRec)) (log : LogRec PlanRec) (link : LinkNumber) (Is : LogRec PlanRec → Type 0) → IsAmong (k + 1) logs link Is → IsAmong k (log ∷ logs) link Is
among_stays k logs log link Is h = record { place = suc h.place; link_is = omega (arith, h.link_is); log = h.log; log_at = h.log_at; is = h.is }

at_its_link : (logs : List (LogRec PlanRec)) (link : LinkNumber) (Is : LogRec PlanRec → Type 0) (h : IsAmong 0 logs link Is) → slice_get logs link ≡ Some h.log
at_its_link logs link Is h = let at : link ≡ h.place = omega (arith, h.link_is) in ap (slice_get logs) at ∙ h.log_at

-- as an end has left it that writes; and begun where one has read to that reads
abbrev IsLeftBy : Outgoing → LogRec PlanRec → Type 0
IsLeftBy o log = (log.published ≡ o.w.end.published) × (log.cause ≡ o.w.end.cause)

abbrev IsReadBy : Incoming → LogRec PlanRec → Type 0
IsReadBy i log = log.base ≡ i.r.end.got

abbrev pub LeftFrom : LinkNumber → List (LogRec PlanRec) → Outgoing → Type 0
LeftFrom k logs o = IsAmong k logs o.link (IsLeftBy o)

abbrev pub ReadFrom : LinkNumber → List (LogRec PlanRec) → Incoming → Type 0
ReadFrom k logs i = IsAmong k logs i.link (IsReadBy i)

has_left : (logs : List (LogRec PlanRec)) (o : Outgoing) → LeftFrom 0 logs o → HasLeft logs o
has_left logs o h = record { log = h.log; log_at = at_its_link logs o.link (IsLeftBy o) h; published = h.is.0; cause = h.is.1 }

has_read : (logs : List (LogRec PlanRec)) (i : Incoming) → ReadFrom 0 logs i → HasRead logs i
has_read logs i h = record { log = h.log; log_at = at_its_link logs i.link (IsReadBy i) h; base = h.is }

-- what was taken out of a cell
pub record IsTaken (cell : CellRec PlanRec) (o : Outgoing) (i : Incoming) (log : LogRec PlanRec) : Type 0 where
  pub run : log.run ≡ cell.run
  pub number : log.number ≡ cell.number
  pub base : log.base ≤ log.published
  pub begun : log.base ≡ i.r.end.got
  pub published : log.published ≡ o.w.end.published
  pub cause : log.cause ≡ o.w.end.cause
  pub own : log.entries ≡ between (carried_at log.run log.number) log.base log.published

log_of : (plan : PlanRec) (link : LinkNumber) (cell : CellRec PlanRec) (o : Outgoing) (i : Incoming) (log : LogRec PlanRec) → IsCellOf plan link cell → IsTaken cell o i log → IsLogOf plan link log
log_of plan link cell o i log is taken =
    let run = taken.run ∙ is.run in
    let number = taken.number ∙ is.number in
    record {
      run = run;
      number = number;
      base = taken.base;
      entries = taken.own ∙ (λ j. between (carried_at (run j) (number j)) log.base log.published) ∙ between_is_history plan link log.base log.published taken.base;
    }

-- ---- From the last arc on

-- what is left of the cells and of the ends, and the logs so far, the last of which is that of the first arc
pub record Gathers (plan : PlanRec) (whole : List (CellRec PlanRec)) (given : List Ends) (cells : List (CellRec PlanRec)) (all : List Ends) (logs : List (LogRec PlanRec)) : Type 0 where
  pub each : (k : LinkNumber) (cell : CellRec PlanRec) → slice_get cells k ≡ Some cell → slice_get whole k ≡ Some cell
  pub count : length cells + length logs ≡ arc_count plan
  pub nodes : length all ≡ length plan.nodes
  pub outgoing : OutgoingLie (IsOutgoing (cells_of plan whole)) (take (length cells) (arcs plan)) (outgoing_of all)
  pub incoming : IncomingLie (IsIncoming (cells_of plan whole)) (take (length cells) (arcs plan)) (incoming_of all)
  pub own : (k : ℕ) (log : LogRec PlanRec) → slice_get (reverse logs) k ≡ Some log → IsLogOf plan (length cells + k) log
  pub left : AllParted (LeftFrom (length cells) (reverse logs)) (outgoing_of given) (outgoing_of all)
  pub read : AllParted (ReadFrom (length cells) (reverse logs)) (incoming_of given) (incoming_of all)

-- before the first step
module _ (plan : PlanRec) (whole : List (CellRec PlanRec)) (given : List Ends) (are : AreCells plan whole) (nodes : length given ≡ length plan.nodes)
    (ends : (n : Position) (e : Ends) → slice_get given n ≡ Some e → AreEnds (cells_of plan whole) n e) where
  all_first : take (length whole) (arcs plan) ≡ arcs plan
  all_first = take_all (length whole) (arcs plan) (omega (arith, are.count))

  pub gathers_none : Gathers plan whole given whole given []
  gathers_none = record {
    each = λ k cell h. h;
    count = omega (arith, are.count);
    nodes = nodes;
    outgoing = λ n below.
        let e = some_at given n (omega (arith, length-map given outgoing_items)) in
        let is = ends n e.0 e.1 in
        subst (λ (l : List Arc). Lies leaves_at from_of from_end_of (IsOutgoing (cells_of plan whole)) l n (get_or (outgoing_of given) n [])) (sym all_first)
        (subst (Lies leaves_at from_of from_end_of (IsOutgoing (cells_of plan whole)) (arcs plan) n) (sym (map_or_at outgoing_items given n e.0 [] e.1))
        (record { places = is.outgoing_at; fit = is.outgoing_fit }));
    incoming = λ n below.
        let e = some_at given n (omega (arith, length-map given incoming_items)) in
        let is = ends n e.0 e.1 in
        subst (λ (l : List Arc). Lies comes_at to_of to_end_of (IsIncoming (cells_of plan whole)) l n (get_or (incoming_of given) n [])) (sym all_first)
        (subst (Lies comes_at to_of to_end_of (IsIncoming (cells_of plan whole)) (arcs plan) n) (sym (map_or_at incoming_items given n e.0 [] e.1))
        (record { places = is.incoming_at; fit = is.incoming_fit }));
    own = λ k log h. absurd (none-some log h);
    left = none_parted (LeftFrom (length whole) []) (outgoing_of given);
    read = none_parted (ReadFrom (length whole) []) (incoming_of given);
  }

-- after the last
module _ {plan : PlanRec} {whole cells : List (CellRec PlanRec)} {given all : List Ends} {logs : List (LogRec PlanRec)}
    (so_far : Gathers plan whole given cells all logs) (none : cells ≡ []) (nodes : length given ≡ length plan.nodes) where
  emptied : Gathers plan whole given [] all logs
  emptied = subst (λ (cs : List (CellRec PlanRec)). Gathers plan whole given cs all logs) none so_far

  map_none : {X : Type 0} (at : X → LinkAt) (xs : List X) → map at xs ≡ [] → xs ≡ []
  map_none at [] h = refl
  map_none at (x ∷ xs) h = cc

  pub all_left : (n : Position) (e : Ends) → slice_get given n ≡ Some e → AllByRecursion (HasLeft (reverse logs)) e.outgoing.items
  all_left n e h =
      let inside : n < length (outgoing_of all) = omega (arith, slice_get_within given n e h, nodes, emptied.nodes, length-map all outgoing_items) in
      let none_left = map_none leaves_at (get_or (outgoing_of all) n []) (emptied.outgoing n inside).places in
      let done = all_parted (LeftFrom 0 (reverse logs)) (get_or (outgoing_of given) n []) (get_or (outgoing_of all) n []) (emptied.left n) none_left in
      subst (AllByRecursion (HasLeft (reverse logs))) (map_or_at outgoing_items given n e [] h)
      (all_give (has_left (reverse logs)) (get_or (outgoing_of given) n []) done)

  pub all_read : (n : Position) (e : Ends) → slice_get given n ≡ Some e → AllByRecursion (HasRead (reverse logs)) e.incoming.items
  all_read n e h =
      let inside : n < length (incoming_of all) = omega (arith, slice_get_within given n e h, nodes, emptied.nodes, length-map all incoming_items) in
      let none_left = map_none comes_at (get_or (incoming_of all) n []) (emptied.incoming n inside).places in
      let done = all_parted (ReadFrom 0 (reverse logs)) (get_or (incoming_of given) n []) (get_or (incoming_of all) n []) (emptied.read n) none_left in
      subst (AllByRecursion (HasRead (reverse logs))) (map_or_at incoming_items given n e [] h)
      (all_give (has_read (reverse logs)) (get_or (incoming_of given) n []) done)

  pub all_own : (k : LinkNumber) (log : LogRec PlanRec) → slice_get (reverse logs) k ≡ Some log → IsLogOf plan k log
  all_own k log h = let none : 0 + k ≡ k = omega arith in subst (λ (l : LinkNumber). IsLogOf plan l log) none (emptied.own k log h)

-- One step: the last cell that is left is popped, and the arc with its number leads this way.
module _ {plan : PlanRec} {whole before : List (CellRec PlanRec)} {given all : List Ends} {logs : List (LogRec PlanRec)} {number : LinkNumber} {route : Route}
    (are : AreCells plan whole) (cells : List (CellRec PlanRec)) (cell : CellRec PlanRec) (popped : before ≡ cells ++ cell ∷ [])
    (so_far : Gathers plan whole given before all logs) (last : length cells ≡ number) (w : IsRouteOf plan number route) where
  with_cell : Gathers plan whole given (cells ++ cell ∷ []) all logs
  with_cell = subst (λ (cs : List (CellRec PlanRec)). Gathers plan whole given cs all logs) popped so_far

  abbrev ds : List Arc
  ds = arcs plan

  abbrev link : LinkNumber
  link = length cells

  abbrev FitsOutgoing : Outgoing → Type 0
  FitsOutgoing = IsOutgoing (cells_of plan whole)

  abbrev FitsIncoming : Incoming → Type 0
  FitsIncoming = IsIncoming (cells_of plan whole)

  link_inside : link < length ds
  link_inside = omega (arith, length_push cells cell, with_cell.count)

  cell_here : slice_get whole link ≡ Some cell
  cell_here = with_cell.each link cell (at_push cells cell link refl)

  abbrev d : Arc
  d = w.arc

  here : slice_get ds link ≡ Some d
  here = ap (slice_get ds) last ∙ w.here

  first_are : take (length (cells ++ cell ∷ [])) ds ≡ take link ds ++ d ∷ []
  first_are = ap (λ (k : ℕ). take k ds) (length_push cells cell) ∙ take_next ds link d here

  outgoing_lie : OutgoingLie FitsOutgoing (take link ds ++ d ∷ []) (outgoing_of all)
  outgoing_lie = subst (λ (l : List Arc). OutgoingLie FitsOutgoing l (outgoing_of all)) first_are with_cell.outgoing

  incoming_lie : IncomingLie FitsIncoming (take link ds ++ d ∷ []) (incoming_of all)
  incoming_lie = subst (λ (l : List Arc). IncomingLie FitsIncoming l (incoming_of all)) first_are with_cell.incoming

  pub some_outgoing : 0 < length (get_or (outgoing_of all) route.from [])
  some_outgoing =
      subst (λ (n : Position). 0 < length (get_or (outgoing_of all) n [])) (sym w.from)
      (some_lie leaves_at from_of from_end_of FitsOutgoing (take link ds) d (outgoing_of all) outgoing_lie
      (omega (arith, length-map all outgoing_items, with_cell.nodes, w.from, w.from_there)))

  -- the end that writes is taken back
  module _ (o : Outgoing) (mid : List Ends) (o_out : outgoing_of all ≡ handed (outgoing_of mid) route.from o) (i_stay : incoming_of mid ≡ incoming_of all) where
    o_back : outgoing_of all ≡ handed (outgoing_of mid) d.from o
    o_back = o_out ∙ ap (λ (n : Position). handed (outgoing_of mid) n o) w.from

    mid_nodes : length mid ≡ length plan.nodes
    mid_nodes =
        omega (
          arith,
          with_cell.nodes,
          length-map all outgoing_items,
          length-map mid outgoing_items,
          ap (length {A = List Outgoing}) o_back,
          length-set (outgoing_of mid) d.from (get_or (outgoing_of mid) d.from [] ++ o ∷ []),
        )

    mid_incoming : IncomingLie FitsIncoming (take link ds ++ d ∷ []) (incoming_of mid)
    mid_incoming = subst (IncomingLie FitsIncoming (take link ds ++ d ∷ [])) (sym i_stay) incoming_lie

    pub some_incoming : 0 < length (get_or (incoming_of mid) route.to [])
    some_incoming =
        subst (λ (n : Position). 0 < length (get_or (incoming_of mid) n [])) (sym w.to)
        (some_lie comes_at to_of to_end_of FitsIncoming (take link ds) d (incoming_of mid) mid_incoming
        (omega (arith, length-map mid incoming_items, mid_nodes, w.to, w.to_there)))

    from_mid : d.from < length (outgoing_of mid)
    from_mid = omega (arith, length-map mid outgoing_items, mid_nodes, w.from, w.from_there)

    o_lie : OutgoingLie FitsOutgoing (take link ds ++ d ∷ []) (handed (outgoing_of mid) d.from o)
    o_lie = subst (OutgoingLie FitsOutgoing (take link ds ++ d ∷ [])) o_back outgoing_lie

    first_long : length (take link ds) ≡ link
    first_long = length_first ds link link_inside

    o_link : o.link ≡ link
    o_link = ap (λ (p : LinkAt). p.1) (last_at leaves_at from_of from_end_of FitsOutgoing (take link ds) d (outgoing_of mid) o o_lie from_mid) ∙ first_long

    table_is : slice_get (tables_of whole) link ≡ Some cell.table
    table_is = map_at (λ (c : CellRec PlanRec). c.table) whole link cell cell_here

    pub o_writes : WritesTo o.w cell
    o_writes =
        writes_to (cells_of plan whole) cell link table_is (are.each link cell cell_here).run (are.each link cell cell_here).number o
        (last_fit leaves_at from_of from_end_of FitsOutgoing (take link ds) d (outgoing_of mid) o o_lie from_mid) o_link

    -- and the end that reads
    module _ (i : Incoming) (after : List Ends) (i_out : incoming_of mid ≡ handed (incoming_of after) route.to i) (o_stay : outgoing_of after ≡ outgoing_of mid) where
      i_back : incoming_of mid ≡ handed (incoming_of after) d.to i
      i_back = i_out ∙ ap (λ (n : Position). handed (incoming_of after) n i) w.to

      after_nodes : length after ≡ length plan.nodes
      after_nodes =
          omega (arith, mid_nodes, length-map after outgoing_items, length-map mid outgoing_items, ap (length {A = List Outgoing}) o_stay)

      to_after : d.to < length (incoming_of after)
      to_after = omega (arith, length-map after incoming_items, after_nodes, w.to, w.to_there)

      i_lie : IncomingLie FitsIncoming (take link ds ++ d ∷ []) (handed (incoming_of after) d.to i)
      i_lie = subst (IncomingLie FitsIncoming (take link ds ++ d ∷ [])) i_back mid_incoming

      i_link : i.link ≡ link
      i_link = ap (λ (p : LinkAt). p.1) (last_at comes_at to_of to_end_of FitsIncoming (take link ds) d (incoming_of after) i i_lie to_after) ∙ first_long

      pub i_reads : ReadsOf i.r cell
      i_reads =
          reads_of (cells_of plan whole) cell link table_is (are.each link cell cell_here).run (are.each link cell cell_here).number i
          (last_fit comes_at to_of to_end_of FitsIncoming (take link ds) d (incoming_of after) i i_lie to_after) i_link

      module _ (log : LogRec PlanRec) (taken : IsTaken cell o i log) where
        reversed_are : reverse (logs ++ log ∷ []) ≡ log ∷ reverse logs
        reversed_are = reverse-append logs (log ∷ [])

        own_at : (k : ℕ) (x : LogRec PlanRec) → slice_get (log ∷ reverse logs) k ≡ Some x → IsLogOf plan (link + k) x
        own_at zero x h =
            let none : link ≡ link + 0 = omega arith in
            subst (λ (l : LinkNumber). IsLogOf plan l x) none (subst (IsLogOf plan link) (same_Some log x h) (log_of plan link cell o i log (are.each link cell cell_here) taken))
        own_at (suc k) x h =
            let more : length (cells ++ cell ∷ []) + k ≡ link + suc k = omega (arith, length_push cells cell) in
            subst (λ (l : LinkNumber). IsLogOf plan l x) more (with_cell.own k x h)

        left_all : AllParted (LeftFrom link (log ∷ reverse logs)) (outgoing_of given) (outgoing_of mid)
        left_all =
            more_parted (LeftFrom (link + 1) (reverse logs)) (LeftFrom link (log ∷ reverse logs)) (λ (x : Outgoing) was. among_stays link (reverse logs) log x.link (IsLeftBy x) was) (outgoing_of given) (outgoing_of mid) d.from o
            (subst (λ (k : ℕ). AllParted (LeftFrom k (reverse logs)) (outgoing_of given) (handed (outgoing_of mid) d.from o)) (length_push cells cell)
            (subst (AllParted (LeftFrom (length (cells ++ cell ∷ [])) (reverse logs)) (outgoing_of given)) o_back with_cell.left))
            (record { place = 0; link_is = omega (arith, o_link); log = log; log_at = refl; is = (taken.published, taken.cause) }) from_mid

        read_all : AllParted (ReadFrom link (log ∷ reverse logs)) (incoming_of given) (incoming_of after)
        read_all =
            more_parted (ReadFrom (link + 1) (reverse logs)) (ReadFrom link (log ∷ reverse logs)) (λ (x : Incoming) was. among_stays link (reverse logs) log x.link (IsReadBy x) was) (incoming_of given) (incoming_of after) d.to i
            (subst (λ (k : ℕ). AllParted (ReadFrom k (reverse logs)) (incoming_of given) (handed (incoming_of after) d.to i)) (length_push cells cell)
            (subst (AllParted (ReadFrom (length (cells ++ cell ∷ [])) (reverse logs)) (incoming_of given)) (sym i_stay ∙ i_back) with_cell.read))
            (record { place = 0; link_is = omega (arith, i_link); log = log; log_at = refl; is = taken.begun }) to_after

        gathers_pushed : Gathers plan whole given cells after (logs ++ log ∷ [])
        gathers_pushed = record {
          each = λ k c h. with_cell.each k c (before_push cells cell c k h);
          count = omega (arith, with_cell.count, length_push cells cell, length_push logs log);
          nodes = after_nodes;
          outgoing =
              subst (OutgoingLie FitsOutgoing (take link ds)) (sym o_stay)
              (fewer_lie leaves_at from_of from_end_of FitsOutgoing (take link ds) d (outgoing_of mid) o o_lie from_mid);
          incoming =
              fewer_lie comes_at to_of to_end_of FitsIncoming (take link ds) d (incoming_of after) i i_lie to_after;
          own = subst (λ (ls : List (LogRec PlanRec)). (k : ℕ) (x : LogRec PlanRec) → slice_get ls k ≡ Some x → IsLogOf plan (link + k) x) (sym reversed_are) own_at;
          left =
              subst (λ (ls : List (LogRec PlanRec)). AllParted (LeftFrom link ls) (outgoing_of given) (outgoing_of after)) (sym reversed_are)
              (subst (AllParted (LeftFrom link (log ∷ reverse logs)) (outgoing_of given)) (sym o_stay) left_all);
          read = subst (λ (ls : List (LogRec PlanRec)). AllParted (ReadFrom link ls) (incoming_of given) (incoming_of after)) (sym reversed_are) read_all;
        }

        pub gathers_more : {grown : List (LogRec PlanRec)} → grown ≡ logs ++ log ∷ [] → Gathers plan whole given cells after grown
        gathers_more pushed = subst (Gathers plan whole given cells after) (sym pushed) gathers_pushed
