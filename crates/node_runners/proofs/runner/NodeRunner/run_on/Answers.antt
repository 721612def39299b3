use Rattle.std.proofs.Common.{rules, sym, subst}
use Rattle.node_runners.specs.declared.runner.Ran.{Ran}
use Rattle.node_runners.specs.declared.runner.Ran.TheVariants.{Blocked, AtLimit}
use Rattle.node_runners.specs.Runner.{RunnerRec, Runs, Stops}
use Rattle.node_runners.specs.Busy.{RunsOn}
use Rattle.node_runners.proofs.Counting.{further, over_busy, over_none}
use Rattle.node_runners.proofs.runner.NodeRunner.run_on.Goals as goal
use Rattle.node_runners.proofs.runner.NodeRunner.run_on.Goals.{After-pass_quiet_slots}

-- so far it has run on over slots, and then over quiet ones
so_far : (c : After-pass_quiet_slots) → RunsOn c.args.self.now c.pass_quiet_slots.new.runner
so_far c =
    let inv = c.loop-end.invariant in
    further c.args.self.now c.loop-end.self c.pass_quiet_slots.new.runner (record { rest = inv.rest; on = inv.on; busy = inv.busy }) c.pass_quiet_slots.ensures.on

pub loop-end-preserved : goal.loop-end-preserved
loop-end-preserved c =
    let ran = subst (λ (r : Ran). Runs c.pass_quiet_slots.new.runner r c.run_slot.new.self) c.in-Slot.is c.in_ok-run_slot.ensures.ran in
    let on =
    over_busy c.busy_slots_are_counted.ensures.one c.args.self.now c.pass_quiet_slots.new.runner c.run_slot.new.self (so_far (goal.at.loop-end-preserved c).After-pass_quiet_slots) ran.1
    (c.pass_quiet_slots.ensures.busy ran.0)
    in
    record { rest = on.rest; on = on.on; busy = on.busy }

pub returns-in_err-run_slot : goal.returns-in_err-run_slot
returns-in_err-run_slot c =
    let on =
    over_none c.args.self.now c.pass_quiet_slots.new.runner c.run_slot.new.self (so_far (goal.at.returns-in_err-run_slot c).After-pass_quiet_slots) c.in_err-run_slot.ensures.err
    in
    record { rest = on.rest; on = on.on; stops = search rules; busy = on.busy }

pub returns-in-Blocked : goal.returns-in-Blocked
returns-in-Blocked c =
    let ran = subst (λ (r : Ran). Runs c.pass_quiet_slots.new.runner r c.run_slot.new.self) c.in-Blocked.is c.in_ok-run_slot.ensures.ran in
    let on = over_none c.args.self.now c.pass_quiet_slots.new.runner c.run_slot.new.self (so_far (goal.at.returns-in-Blocked c).After-pass_quiet_slots) ran.2 in
    let stops = subst (λ (r : RunnerRec). Stops r.horizon r.clock (Blocked c.in-Blocked.end c.in-Blocked.seen)) (sym ran.2) (ran.0, ran.1) in
    record { rest = on.rest; on = on.on; stops = stops; busy = on.busy }

pub returns-in-AtLimit : goal.returns-in-AtLimit
returns-in-AtLimit c =
    let ran = subst (λ (r : Ran). Runs c.pass_quiet_slots.new.runner r c.run_slot.new.self) c.in-AtLimit.is c.in_ok-run_slot.ensures.ran in
    let on = over_none c.args.self.now c.pass_quiet_slots.new.runner c.run_slot.new.self (so_far (goal.at.returns-in-AtLimit c).After-pass_quiet_slots) ran.1 in
    let stops = subst (λ (r : RunnerRec). Stops r.horizon r.clock AtLimit) (sym ran.1) ran.0 in
    record { rest = on.rest; on = on.on; stops = stops; busy = on.busy }
