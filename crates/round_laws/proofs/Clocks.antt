-- How clocks rise from round to round.
use Rattle.std.proofs.Common.{◌≡◌, ◌⊎◌, ℕ, zero, suc, ◌+◌, ◌*◌, ◌<◌, ◌≤◌, min, eqb, Option, Some, None, List, [], ◌∷◌, length, map, refl, sym, ap, ◌∙◌, subst, arith, add-one, inl, inr}
use Rattle.std.specs.List.{AllByRecursion}
use Rattle.std.proofs.lemmas.Bool.{cases_lt}
use Rattle.std.proofs.lemmas.List.{length-replicate}
use Rattle.xs_base.specs.Numbers.{Slot, Position}
use Rattle.sys_plan.specs.Plan.{PlanRec, IsPlan, Arc, arcs}
use Rattle.sys_plan.proofs.Routes.{IsWithin, within, within-all, all-get}
use Rattle.round_laws.specs.Rounds.{least, reach, arcs_to, next_clock, positions_from, round_clocks, round_clock, lesser, least_delay}
use Rattle.round_laws.specs.Laws.{AllHaveRun, ClocksStartAtZero, ClocksGoByRounds, NoRoundFalls, ClocksStayWithin, RoundGoesOn, RoundsGoOn, IsLeastOf, IsLeastDelay, LeastDelayIsLeast}
use Rattle.round_laws.proofs.Leasts.{least_within, least_rises, from_each}
use Rattle.round_laws.proofs.Positions.{at_position, of_each_node, each_within, each_rises, zeros}

pub start_at_zero : ClocksStartAtZero
unfolding round_clocks
start_at_zero plan limit n = zeros (length plan.nodes) n

module _ (plan : PlanRec) (limit : Slot) where
  pub after_one_more : (n : Position) (k : ℕ) → n < length plan.nodes → round_clock plan limit n (suc k) ≡ next_clock plan limit (round_clocks plan limit k) n
  unfolding round_clocks
  after_one_more n k less =
      let from_0 : 0 + n ≡ n = omega arith in
      at_position (next_clock plan limit (round_clocks plan limit k)) plan.nodes 0 n less ∙ ap (next_clock plan limit (round_clocks plan limit k)) from_0

  pub as_many_as_nodes : (k : ℕ) → length (round_clocks plan limit k) ≡ length plan.nodes
  unfolding round_clocks
  as_many_as_nodes zero = length-replicate (length plan.nodes) 0
  as_many_as_nodes (suc k) = of_each_node (next_clock plan limit (round_clocks plan limit k)) plan.nodes 0

  pub none_falls : (k : ℕ) (n : Position) → round_clock plan limit n k ≤ round_clock plan limit n (suc k)
  unfolding round_clocks
  none_falls zero n = omega (arith, zeros (length plan.nodes) n)
  none_falls (suc k) n =
      each_rises (next_clock plan limit (round_clocks plan limit k)) (next_clock plan limit (round_clocks plan limit (suc k)))
      (λ m. least_rises limit (round_clocks plan limit k) (round_clocks plan limit (suc k)) (none_falls k) (arcs_to plan m)) (positions_from 0 plan.nodes) n

  pub stay_within : (k : ℕ) (n : Position) → round_clock plan limit n k ≤ limit
  unfolding round_clocks
  stay_within zero n = omega (arith, zeros (length plan.nodes) n)
  stay_within (suc k) n =
      each_within (next_clock plan limit (round_clocks plan limit k)) limit (λ m. least_within limit (map (reach (round_clocks plan limit k)) (arcs_to plan m))) (positions_from 0 plan.nodes) n

-- by one more than k, as the laws write it
one_on : (P : ℕ → Type 0) (k : ℕ) → P (suc k) → P (k + 1)
one_on P k p = subst P (sym (add-one k)) p

pub go_by_rounds : ClocksGoByRounds
go_by_rounds plan limit n k less =
    one_on (λ j. round_clock plan limit n j ≡ least limit (map (λ (d : Arc). round_clock plan limit d.from k + d.delay) (arcs_to plan n))) k (after_one_more plan limit n k less)

pub no_round_falls : NoRoundFalls
no_round_falls plan limit n k = one_on (λ j. round_clock plan limit n k ≤ round_clock plan limit n j) k (none_falls plan limit k n)

pub clocks_stay_within : ClocksStayWithin
clocks_stay_within plan limit n k = stay_within plan limit k n

-- ---- By delays

-- no delay of these arcs is below this
abbrev pub NoneBelow : Slot → List Arc → Type 0
NoneBelow delay ds = AllByRecursion (λ (d : Arc). delay ≤ d.delay) ds

less_too : (delay most : Slot) → delay ≤ most → (ds : List Arc) → NoneBelow most ds → NoneBelow delay ds
less_too delay most less [] all = tt
less_too delay most less (d ∷ ds) all = (omega (arith, less, all.0), less_too delay most less ds all.1)

least_of_more : (o : Option Slot) (d : Arc) (ds : List Arc) → IsLeastDelay ds o → IsLeastOf (d ∷ ds) (lesser d.delay o)
least_of_more None d ds none = record { none_below = (omega arith, subst (NoneBelow d.delay) (sym none) tt); place = 0; arc = d; there = refl; is_it = refl }
least_of_more (Some delay) d ds is = by_case (cases_lt delay d.delay)
  where
    both : NoneBelow (min d.delay delay) (d ∷ ds)
    both = (omega arith, less_too (min d.delay delay) delay (omega arith) ds is.none_below)

    by_case : (delay < d.delay) ⊎ (d.delay ≤ delay) → IsLeastOf (d ∷ ds) (min d.delay delay)
    by_case (inl less) = record { none_below = both; place = suc is.place; arc = is.arc; there = is.there; is_it = omega (arith, is.is_it, less) }
    by_case (inr more) = record { none_below = both; place = 0; arc = d; there = refl; is_it = omega (arith, more) }

pub least_delay_is_least : LeastDelayIsLeast
least_delay_is_least [] = refl
least_delay_is_least (d ∷ ds) = least_of_more (least_delay ds) d ds (least_delay_is_least ds)

pub least_of : (ds : List Arc) (delay : Slot) → least_delay ds ≡ Some delay → IsLeastOf ds delay
least_of ds delay is = subst (IsLeastDelay ds) is (least_delay_is_least ds)

pub below_none : (ds : List Arc) (delay : Slot) → least_delay ds ≡ Some delay → NoneBelow delay ds
below_none ds delay is = (least_of ds delay is).none_below

-- a slot at least
one_each : (nodes : ℕ) (ds : List Arc) → AllByRecursion (IsWithin nodes) ds → NoneBelow 1 ds
one_each nodes [] all = tt
one_each nodes (d ∷ ds) all = (all.0.delay, one_each nodes ds all.1)

pub one_below_none : (plan : PlanRec) → IsPlan plan → NoneBelow 1 (arcs plan)
one_below_none plan is = one_each (length plan.nodes) (arcs plan) (within-all plan is)

module _ (plan : PlanRec) (limit delay : Slot) (is : IsPlan plan) (all : NoneBelow delay (arcs plan)) where
  further : (m : Slot) (k : ℕ) → AllHaveRun plan limit k m → AllHaveRun plan limit (suc k) (min limit (m + delay))
  further m k run n less =
      subst (λ (clock : Slot). min limit (m + delay) ≤ clock) (sym (after_one_more plan limit n k less))
      (from_each limit (reach (round_clocks plan limit k)) (λ d. eqb d.to n) (min limit (m + delay)) (omega arith) (arcs plan)
      (λ l d at hit. omega (arith, run d.from (within plan is l d at).from, all-get (λ (e : Arc). delay ≤ e.delay) (arcs plan) l d all at)))

  pub by_delays : (k : ℕ) → AllHaveRun plan limit k (min limit (k * delay))
  by_delays zero n less = omega arith
  by_delays (suc k) n less = omega (arith, further (min limit (k * delay)) k (by_delays k) n less)

pub round_goes_on : RoundGoesOn
round_goes_on plan limit delay m k is least run =
    one_on (λ j. AllHaveRun plan limit j (min limit (m + delay))) k (further plan limit delay is (below_none (arcs plan) delay least) m k run)

pub rounds_go_on : RoundsGoOn
rounds_go_on plan limit delay k is least = by_delays plan limit delay is (below_none (arcs plan) delay least) k
