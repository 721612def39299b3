-- A worker before its first turn.
use Rattle.std.proofs.Common.{◌≡◌, ℕ, zero, suc, ◌<◌, Option, Some, None, option_map, List, replicate, get_or, refl, sym, ap, ◌∙◌, subst}
use Rattle.std.proofs.lemmas.List.Elements.{All-from_recursion}
use Rattle.std.proofs.lemmas.Option.{none-some, same_Some, slice_get-get_or, slice_get_within}
use Rattle.xs_base.specs.Numbers.{Slot, Position, EndNumber, LinkNumber}
use Rattle.sys_plan.specs.declared.system_plan.TheConstants.{ENDS}
use Rattle.sys_plan.specs.Plan.{PlanRec, IsPlan, arc_count, incoming, delay_of}
use Rattle.sys_plan.proofs.Routes.{found-at-end-in, incoming-end}
use Rattle.link_logs.specs.Logs.{WriteRec, ReadRec}
use Rattle.ahead_limits.specs.declared.horizon.Seen.{Seen}
use Rattle.ahead_limits.specs.Horizon.{HorizonRec, Sees}
use Rattle.ahead_limits.specs.Schedule.{seen_of_link, horizon_of}
use Rattle.busy_slots.proofs.Brought.{none_at_start}
use Rattle.node_runners.specs.Runner.{RunnerRec, new_runner}
use Rattle.plan_cells.specs.declared.ends.Hand.{Hand}
use Rattle.plan_cells.specs.declared.ends.Incoming.{Incoming}
use Rattle.plan_cells.specs.declared.ends.Ends.{Ends}
use Rattle.plan_cells.specs.Ends.{CellsRec, AreNewEnds, IsNewIncoming, IsNewOutgoing}
use Rattle.core_workers.specs.Worker.{IsInHand, IsHeard, IsWorker}
use Rattle.core_workers.proofs.Routes.{comes_by}

none_counted : (n k : ℕ) → ◌≡◌ {A = ℕ} (get_or (replicate n 0) k 0) 0
none_counted zero k = refl
none_counted (suc n) zero = refl
none_counted (suc n) (suc k) = none_counted n k

-- a mapped option that is there was there
mapped_there : (f : LinkNumber → Seen) (o : Option LinkNumber) (s : Seen) → option_map f o ≡ Some s → (link : LinkNumber) × (o ≡ Some link)
mapped_there f None s is = absurd (none-some s is)
mapped_there f (Some link) s is = (link, refl)

none_in_hand : (plan : PlanRec) (link : LinkNumber) (seen got : Slot) (hand : Option Hand) → hand ≡ None → seen ≡ got → IsInHand plan link seen got hand
none_in_hand plan link seen got hand none is = subst (λ (h : Option Hand). IsInHand plan link seen got h) (sym none) is

module _ (plan : PlanRec) (is : IsPlan plan) (limit : Slot) (n : Position) where
  abbrev none_seen : List Slot
  none_seen = replicate (arc_count plan) 0

  abbrev start : HorizonRec
  start = horizon_of plan limit none_seen n

  seen_at_start : LinkNumber → Seen
  seen_at_start link = record { delay = delay_of plan link; seen = get_or none_seen link 0 }

  heard_at_start : (i : Incoming) → incoming plan n i.end ≡ Some i.link → IsNewIncoming plan i → IsHeard plan start i
  heard_at_start i route new = record {
    seen = record { delay = delay_of plan i.link; seen = get_or none_seen i.link 0 };
    there =
        found-at-end-in plan n (λ end. option_map (seen_of_link plan none_seen) (incoming plan n end)) i.end (incoming-end plan is n i.end i.link route)
        ∙ ap (λ (o : Option LinkNumber). Some (option_map (seen_of_link plan none_seen) o)) route;
    delay = refl;
    in_hand = none_in_hand plan i.link (get_or none_seen i.link 0) i.r.end.got i.hand new.none_in_hand
        (none_counted (arc_count plan) i.link ∙ sym (ap (λ (r : ReadRec PlanRec). r.got) new.end));
  }

  no_others_at_start : (end : EndNumber) (s : Seen) → Sees start end s → (link : LinkNumber) × (incoming plan n end ≡ Some link)
  no_others_at_start end s sees =
      let within : end < ENDS = slice_get_within start.ends end (Some s) sees in
      mapped_there (seen_of_link plan none_seen) (incoming plan n end) s
      (same_Some (option_map (seen_of_link plan none_seen) (incoming plan n end)) (Some s)
      (sym (found-at-end-in plan n (λ e. option_map (seen_of_link plan none_seen) (incoming plan n e)) end within) ∙ sees))

module _ (cells : CellsRec) (is : IsPlan cells.plan) (limit : Slot) (n : Position) (ends : Ends) (new : AreNewEnds cells n ends) where
  pub starts : IsWorker (record { cells = cells; runner = new_runner cells.plan limit n; ends = ends })
  starts = record {
    plan_is = is;
    of_plan = refl;
    listens = record {
      places = new.are_ends.incoming_at;
      fit = new.are_ends.incoming_fit;
      heard = λ k d within.
          let i = get_or ends.incoming.items k d in
          heard_at_start cells.plan is limit n i
          (comes_by cells.plan is n ends.incoming.items new.are_ends.incoming_at k i (slice_get-get_or ends.incoming.items k d within))
          (All-from_recursion (IsNewIncoming cells.plan) ends.incoming.items new.incoming_new k d within);
      no_others = no_others_at_start cells.plan is limit n;
    };
    tells = record {
      places = new.are_ends.outgoing_at;
      fit = new.are_ends.outgoing_fit;
      told = λ k d within.
          let o = get_or ends.outgoing.items k d in
          none_counted ENDS o.end ∙ sym (ap (λ (w : WriteRec PlanRec). w.published) (All-from_recursion (IsNewOutgoing cells.plan) ends.outgoing.items new.outgoing_new k d within));
      all_ends = refl;
    };
    busy = sym (none_at_start cells.plan n);
  }

pub made : (cells : CellsRec) (runner : RunnerRec) (ends : Ends) → IsPlan runner.plan → runner ≡ new_runner cells.plan runner.horizon.limit runner.node → AreNewEnds cells runner.node ends
    → IsWorker (record { cells = cells; runner = runner; ends = ends })
made cells runner ends is start new =
    let is_plan = subst IsPlan (ap (λ (r : RunnerRec). r.plan) start) is in
    subst (λ (r : RunnerRec). IsWorker (record { cells = cells; runner = r; ends = ends })) (sym start) (starts cells is_plan runner.horizon.limit runner.node ends new)
