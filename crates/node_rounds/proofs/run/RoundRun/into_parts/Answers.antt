use Rattle.std.proofs.Common.{◌≡◌, ◌<◌, true, List, length, map, sym, ap, ◌∙◌, subst}
use Rattle.std.specs.Prelude.{All}
use Rattle.xs_base.specs.Numbers.{Position}
use Rattle.node_runners.specs.Runner.{RunnerRec}
use Rattle.node_runners.specs.Busy.{HasSteppedBusy}
use Rattle.finished_runs.specs.Limit.{Totals, AreAtLimit}
use Rattle.plan_lanes.specs.declared.lane.Lane.{Lane}
use Rattle.round_laws.specs.Rounds.{round_clock, all_at_limit}
use Rattle.node_rounds.specs.Run.{RoundRunRec}
use Rattle.node_rounds.specs.Parts.{runner_of, sent_by}
use Rattle.node_rounds.proofs.AtEnd.{at_limit, all_limits, all_busy}
use Rattle.node_rounds.proofs.run.RoundRun.into_parts.Goals as goal
use Rattle.node_rounds.proofs.run.RoundRun.into_parts.Goals.{In_ok-runners}

each : (c : In_ok-runners) → (n : Position) → n < length c.self.inside.plan.value.nodes → round_clock c.self.inside.plan.value c.self.inside.table.limit n c.self.inside.passes ≡ c.self.inside.table.limit
each c =
    let all = subst (λ (r : RoundRunRec). all_at_limit r.plan r.limit r.passes ≡ true) (sym c.self.view_is) c.requires.at_limit in
    (c.rounds_by_first.ensures.each c.self.inside.plan.value c.self.inside.table.limit c.self.inside.passes).0 all

pub returns-clause-at_limit : goal.returns-clause-at_limit
returns-clause-at_limit c =
    let r = (goal.at.returns-clause-at_limit c).In_ok-runners in
    let plan = c.self.inside.plan.value in
    let table = c.self.inside.table in
    let ends = at_limit plan table.limit c.self.inside.passes table.seats.items table.lanes.items c.self.invariant (each r) in
    let totals : c.in_ok-totals.totals.items ≡ map sent_by table.lanes.items = c.in_ok-totals.ensures ∙ ap (λ (ls : List Lane). map sent_by ls) c.deref.ensures.value in
    let by_totals = subst (λ (ts : List Totals). AreAtLimit plan table.limit (map runner_of table.seats.items) ts) (sym totals) ends in
    let by_runners = subst (λ (rs : List RunnerRec). AreAtLimit plan table.limit rs c.in_ok-totals.totals.items) (sym c.in_ok-runners.ensures) by_totals in
    subst (λ (run : RoundRunRec). AreAtLimit run.plan run.limit c.in_ok-runners.runners.items c.in_ok-totals.totals.items) c.self.view_is by_runners

pub returns-clause-limits : goal.returns-clause-limits
returns-clause-limits c =
    let r = (goal.at.returns-clause-limits c).In_ok-runners in
    let plan = c.self.inside.plan.value in
    let table = c.self.inside.table in
    let all = all_limits plan table.limit c.self.inside.passes table.seats.items table.lanes.items c.self.invariant (each r) in
    let by_runners = subst (λ (rs : List RunnerRec). All (λ (x : RunnerRec). x.horizon.limit ≡ table.limit) rs) (sym c.in_ok-runners.ensures) all in
    subst (λ (run : RoundRunRec). All (λ (x : RunnerRec). x.horizon.limit ≡ run.limit) c.in_ok-runners.runners.items) c.self.view_is by_runners

pub returns-clause-busy : goal.returns-clause-busy
returns-clause-busy c =
    let r = (goal.at.returns-clause-busy c).In_ok-runners in
    let plan = c.self.inside.plan.value in
    let table = c.self.inside.table in
    subst (λ (rs : List RunnerRec). All HasSteppedBusy rs) (sym c.in_ok-runners.ensures)
    (all_busy plan table.limit c.self.inside.passes table.seats.items table.lanes.items c.self.invariant (each r))
