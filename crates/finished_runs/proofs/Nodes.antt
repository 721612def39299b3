-- A node that has run up to the limit is what it is in the serial machine there, and so much was sent on each arc.
use Rattle.std.proofs.Common.{◌≡◌, ◌<◌, Some, List, length, get_or, sym, ap, ◌∙◌, subst, arith}
use Rattle.std.proofs.lemmas.Option.{slice_get-get_or}
use Rattle.xs_base.specs.Numbers.{Slot, LinkNumber, Position}
use Rattle.sys_plan.specs.Plan.{PlanRec, arc_count}
use Rattle.serial_model.specs.Serial.{serial}
use Rattle.locality_laws.specs.Locality.{node_in, events_in}
use Rattle.core_step.specs.Core.{CoreValue, StandsAt}
use Rattle.trace_lines.specs.Kept.{KeptEvents, Keeps}
use Rattle.busy_slots.specs.Busy.{busy_count}
use Rattle.node_runners.specs.Runner.{RunnerRec}
use Rattle.node_runners.specs.Busy.{HasSteppedBusy}
use Rattle.finished_runs.specs.Limit.{Totals, HasRun, HasSent, AreAtLimit}

module _ {plan : PlanRec} {limit : Slot} {n : Position} {runner : RunnerRec} (has : HasRun plan limit n runner) where
  abbrev Place : Type 0
  Place = PlanRec × Slot × Position

  same_place : ◌≡◌ {A = Place} (runner.plan, runner.clock, runner.node) (plan, limit, n)
  same_place = λ i. (has.plan_is i, has.clock i, has.node i)

  pub stands_there : {core : CoreValue} → StandsAt core (node_in (serial runner.plan runner.clock) runner.node) runner.clock → StandsAt core (node_in (serial plan limit) n) limit
  stands_there {core} stands = subst (λ (p : Place). StandsAt core (node_in (serial p.0 p.1) p.2) p.1) same_place stands

  pub stepped_there : HasSteppedBusy runner → runner.stepped ≡ busy_count plan n limit
  stepped_there busy = busy ∙ ap (λ (p : Place). busy_count p.0 p.2 p.1) same_place

  pub keeps_there : {kept : KeptEvents} → Keeps kept (events_in (serial runner.plan runner.clock) runner.node) → Keeps kept (events_in (serial plan limit) n)
  keeps_there {kept} keeps = subst (λ (p : Place). Keeps kept (events_in (serial p.0 p.1) p.2)) same_place keeps

module _ (plan : PlanRec) (limit : Slot) (runners : List RunnerRec) (totals : List Totals) (is : AreAtLimit plan limit runners totals) where
  pub node_at : (n : Position) (runner : RunnerRec) → n < length plan.nodes → runner ≡ get_or runners n runner → HasRun plan limit n runner
  node_at n runner below here =
      is.each_node n runner (slice_get-get_or runners n runner (omega (arith, below, is.nodes)) ∙ ap (λ (r : RunnerRec). Some r) (sym here))

  pub sent_at : (link : LinkNumber) (sent : Totals) → link < arc_count plan → sent ≡ get_or totals link sent → HasSent plan limit link sent
  sent_at link sent below here =
      is.each_link link sent (slice_get-get_or totals link sent (omega (arith, below, is.links)) ∙ ap (λ (t : Totals). Some t) (sym here))
