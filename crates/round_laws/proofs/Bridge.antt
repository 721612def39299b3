-- What a node sees of the round before lets it run to its next clock.
use Rattle.std.proofs.Common.{◌≡◌, ◌⊎◌, ℕ, zero, suc, ◌+◌, ◌<◌, ◌≤◌, eqb, Option, Some, None, List, [], ◌∷◌}
use Rattle.std.proofs.Common.{length, map, slice_get, slice_index, option_map, refl, sym, ap, ◌∙◌, subst, arith, add-one, inl, inr}
use Rattle.std.proofs.lemmas.Bool.{eqb-true, eq-eqb, cases_lt}
use Rattle.std.proofs.lemmas.Option.{none-some, same_Some, slice_get_past, slice_get-map, get_or_from_slice_get}
use Rattle.xs_base.specs.Numbers.{Slot, Position, EndNumber, LinkNumber}
use Rattle.sys_plan.specs.Plan.{PlanRec, IsPlan, Arc, arcs, incoming}
use Rattle.sys_plan.specs.declared.system_plan.TheConstants.{ENDS}
use Rattle.sys_plan.proofs.Routes.{leads-to, within, incoming-is, delay-is, found-at-end-in}
use Rattle.ahead_limits.specs.declared.horizon.Seen.{Seen}
use Rattle.ahead_limits.specs.Horizon.{HorizonRec, Sees, horizon_at}
use Rattle.ahead_limits.specs.Bound.{nearer, least_bound}
use Rattle.ahead_limits.specs.Schedule.{horizon_of, seen_of_link}
use Rattle.ahead_limits.proofs.Bounds.{may_run_is}
use Rattle.ahead_limits.proofs.Kept.{link_at_end}
use Rattle.ahead_limits.proofs.Steps.{runs_to_bound, bound_within}
use Rattle.round_laws.specs.Rounds.{reach, arcs_to, next_clock, round_clocks, round_clock}
use Rattle.round_laws.specs.Laws.{SeesRound, RoundRunsBelow, RoundMayRun, RoundRunsTo, seen_after, HorizonSeesRound}
use Rattle.round_laws.proofs.Leasts.{least_within, from_each, to_each}
use Rattle.round_laws.proofs.Clocks.{after_one_more, no_round_falls}

-- ---- The bound of a horizon

nearer_within : (bound : Slot) (s : Option Seen) → nearer bound s ≤ bound
nearer_within bound None = omega arith
nearer_within bound (Some s) = omega arith

nearer_from : (m bound : Slot) (x : Option Seen) → m ≤ bound → ((s : Seen) → x ≡ Some s → m ≤ horizon_at s) → m ≤ nearer bound x
nearer_from m bound None less each = less
nearer_from m bound (Some s) less each = omega (arith, less, each s refl)

-- it is at most the horizon at each end
bound_to_each : (bound : Slot) (ends : List (Option Seen)) (end : ℕ) (s : Seen) → slice_get ends end ≡ Some (Some s) → least_bound bound ends ≤ horizon_at s
bound_to_each bound [] end s at = absurd (none-some (Some s) at)
bound_to_each bound (x ∷ ends) zero s at =
    let here : nearer bound x ≤ horizon_at s = subst (λ (y : Option Seen). nearer bound y ≤ horizon_at s) (sym (same_Some x (Some s) at)) (omega arith) in
    omega (arith, bound_within (nearer bound x) ends, here)
bound_to_each bound (x ∷ ends) (suc end) s at = bound_to_each (nearer bound x) ends end s at

-- and no less than what is at most the limit and each of them
bound_from_each : (m bound : Slot) (ends : List (Option Seen)) → m ≤ bound → ((end : ℕ) (s : Seen) → slice_get ends end ≡ Some (Some s) → m ≤ horizon_at s) → m ≤ least_bound bound ends
bound_from_each m bound [] less each = less
bound_from_each m bound (x ∷ ends) less each =
    bound_from_each m (nearer bound x) ends (nearer_from m bound x less (λ s is. each 0 s (ap (λ (o : Option Seen). Some o) is))) (λ end s at. each (suc end) s at)

-- ---- By what is seen

module _ (plan : PlanRec) (limit : Slot) (n : Position) (k : ℕ) where
  abbrev clocks : List Slot
  clocks = round_clocks plan limit k

  abbrev next : Slot
  next = next_clock plan limit clocks n

  abbrev by_arc : Arc → Seen
  by_arc d = record { delay = d.delay; seen = slice_index clocks d.from }

  module _ (h : HorizonRec) (sees : SeesRound plan limit n k h) where
    at_most_next : least_bound h.limit h.ends ≤ next
    at_most_next =
        from_each limit (reach clocks) (λ d. eqb d.to n) (least_bound h.limit h.ends) (omega (arith, bound_within h.limit h.ends, sees.limit_is)) (arcs plan)
        (λ l d at hit. bound_to_each h.limit h.ends d.to_end (by_arc d) (sees.sees l d at (eqb-true d.to n hit)))

    -- an arc that comes to the node is what its end sees
    at_most_seen : (end : EndNumber) (s : Seen) → Sees h end s → next ≤ horizon_at s
    at_most_seen end s at =
        let other = sees.no_others end s at in
        let l = leads-to plan n end other.0 other.1 in
        let there : Sees h end (by_arc l.arc) = subst (λ e. Sees h e (by_arc l.arc)) l.to_end (sees.sees other.0 l.arc l.here l.to) in
        let same : by_arc l.arc ≡ s = same_Some (by_arc l.arc) s (same_Some (Some (by_arc l.arc)) (Some s) (sym there ∙ at)) in
        subst (λ (t : Seen). next ≤ horizon_at t) same (to_each limit (reach clocks) (λ d. eqb d.to n) (arcs plan) other.0 l.arc l.here (eq-eqb l.arc.to n l.to))

    at_least_next : next ≤ least_bound h.limit h.ends
    at_least_next = bound_from_each next h.limit h.ends (omega (arith, least_within limit (map (reach clocks) (arcs_to plan n)), sees.limit_is)) at_most_seen

    pub bound_is : n < length plan.nodes → least_bound h.limit h.ends ≡ round_clock plan limit n (suc k)
    bound_is less = omega (arith, at_most_next, at_least_next, after_one_more plan limit n k less)

-- ---- The laws

pub round_runs_below : RoundRunsBelow
round_runs_below plan limit n k h less sees =
    bound_is plan limit n k h sees less ∙ ap (λ j. round_clock plan limit n j) (sym (add-one k))

pub round_may_run : RoundMayRun
round_may_run plan limit n k h clock less sees =
    sym (may_run_is h clock clock (round_clock plan limit n (k + 1)) refl (sym (round_runs_below plan limit n k h less sees)))

pub round_runs_to : RoundRunsTo
round_runs_to plan limit n k count h less sees enough =
    omega (arith, runs_to_bound h count (round_clock plan limit n k), round_runs_below plan limit n k h less sees, enough, no_round_falls plan limit n k)

module _ (plan : PlanRec) (limit : Slot) (n : Position) (k : ℕ) (is : IsPlan plan) where
  abbrev seen : List Slot
  seen = seen_after plan limit k

  abbrev h : HorizonRec
  h = horizon_of plan limit seen n

  seen_of : (link : LinkNumber) (d : Arc) → slice_get (arcs plan) link ≡ Some d → seen_of_link plan seen link ≡ by_arc plan limit n k d
  seen_of link d at =
      let sender : Arc → Slot = λ a. round_clock plan limit a.from k in
      let there : slice_get seen link ≡ Some (sender d) = slice_get-map sender (arcs plan) link ∙ ap (option_map sender) at in
      let sent : slice_index seen link ≡ sender d = get_or_from_slice_get seen link (sender d) 0 there in
      λ i. record { delay = delay-is plan is link d at i; seen = sent i }

  sees_it : (link : LinkNumber) (d : Arc) → slice_get (arcs plan) link ≡ Some d → d.to ≡ n → Sees h d.to_end (by_arc plan limit n k d)
  sees_it link d at to =
      let there : incoming plan n d.to_end ≡ Some link = subst (λ m. incoming plan m d.to_end ≡ Some link) to (incoming-is plan is link d at) in
      link_at_end plan limit seen n d.to_end link (within plan is link d at).to_end there ∙ ap (λ (s : Seen). Some (Some s)) (seen_of link d at)

  only : (o : Option LinkNumber) (s : Seen) → option_map (seen_of_link plan seen) o ≡ Some s → (link : LinkNumber) × (o ≡ Some link)
  only None s is = absurd (none-some s is)
  only (Some link) s is = (link, refl)

  no_others : (end : EndNumber) (s : Seen) → Sees h end s → (link : LinkNumber) × (incoming plan n end ≡ Some link)
  no_others end s at = by_case (cases_lt end ENDS)
    where
      by_case : (end < ENDS) ⊎ (ENDS ≤ end) → (link : LinkNumber) × (incoming plan n end ≡ Some link)
      by_case (inl below) = only (incoming plan n end) s (same_Some (option_map (seen_of_link plan seen) (incoming plan n end)) (Some s)
          (sym (found-at-end-in plan n (λ e. option_map (seen_of_link plan seen) (incoming plan n e)) end below) ∙ at))
      by_case (inr past) = absurd (none-some (Some s) (sym (slice_get_past h.ends end past) ∙ at))

pub horizon_sees_round : HorizonSeesRound
horizon_sees_round plan limit n k is = record { limit_is = refl; sees = sees_it plan limit n k is; no_others = no_others plan limit n k is }
