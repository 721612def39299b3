use Rattle.std.proofs.Common.{◌≡◌, ℕ, ◌≤◌, Some, sym, subst}
use Rattle.std.specs.Prelude.{slice_set}
use Rattle.sys_plan.specs.Plan.{outgoing}
use Rattle.serial_model.specs.Serial.{history}
use Rattle.node_runners.specs.Sent.{OutletsRec}
use Rattle.node_runners.specs.Runner.{RunnerRec}
use Rattle.node_runners.specs.Inside.{IsRunner}
use Rattle.node_runners.proofs.Sends.{leaves_by, has_batch, is_end, publishes}
use Rattle.node_runners.proofs.runner.NodeRunner.exchange.Goals as goal

pub exchange-before-requires : goal.exchange-before-requires
exchange-before-requires c = record { there = has_batch _ _ _ _ _ _ _ _ _ c.self.invariant.1 c.args.end (leaves_by c.args.end c.self.view_is c.requires.there) }

pub bounds-self-inside-end : goal.bounds-self-inside-end
bounds-self-inside-end c = is_end _ _ _ _ _ _ _ _ _ c.self.invariant.1 c.args.end (leaves_by c.args.end c.self.view_is c.requires.there)

pub invariant_of-self : goal.invariant_of-self
invariant_of-self c =
    let i = c.self.inside in
    let end = c.args.end in
    let there = leaves_by end c.self.view_is c.requires.there in
    let before = subst (λ (r : RunnerRec). c.args.from ≤ r.clock) (sym c.self.view_is) c.requires.before in
    let own = subst (λ (r : RunnerRec). (link : ℕ) → outgoing r.plan r.node end ≡ Some link → c.args.batch.entries ≡ history r.plan link c.args.from r.clock) (sym c.self.view_is) c.requires.own in (
      c.self.invariant.0,
      subst (λ (o : OutletsRec). IsRunner i.plan.value i.node i.clock i.horizon i.seat i.pins i.inlets o (slice_set i.published end c.args.from)) (sym c.exchange-before.ensures.after)
          (publishes i.plan.value i.node i.clock i.horizon i.seat i.pins i.inlets i.outlets i.published c.self.invariant.1 end there c.args.batch c.args.from before own),
    )
