use Rattle.std.proofs.Common.{◌≡◌, ◌≤◌, Some, sym, subst, arith, rules}
use Rattle.std.specs.Prelude.{IsSome, is_ok, true}
use Rattle.xs_base.specs.Numbers.{LinkNumber}
use Rattle.sys_plan.specs.Plan.{incoming}
use Rattle.serial_model.specs.Serial.{history}
use Rattle.ahead_limits.specs.Horizon.{seen_at}
use Rattle.node_runners.specs.Runner.{RunnerRec}
use Rattle.node_runners.proofs.Whole.{went-well}
use Rattle.node_runners.proofs.Takes.{inside, runner-taken}
use Rattle.node_runners.proofs.runner.NodeRunner.take.Goals as goal

pub append-requires : goal.append-requires
append-requires c =
    let i = c.self.inside in
    let end = c.args.end in
    let to = c.args.to in
    let there = subst (λ (r : RunnerRec). IsSome (incoming r.plan r.node end)) (sym c.self.view_is) c.requires.there in
    let on = subst (λ (r : RunnerRec). seen_at r.horizon end ≤ to) (sym c.self.view_is) c.requires.on in
    let own = subst (λ (r : RunnerRec). (link : LinkNumber) → incoming r.plan r.node end ≡ Some link → c.args.batch.entries ≡ history r.plan link (seen_at r.horizon end) to) (sym c.self.view_is) c.requires.own in
    record { there = inside i.plan.value i.clock to c.args.batch.entries i.node end i.horizon i.inlets i.outlets i.published c.self.invariant.1.links there on own }

pub invariant_of-self-2 : goal.invariant_of-self-2
invariant_of-self-2 c =
    let i = c.self.inside in
    let end = c.args.end in
    let to = c.args.to in
    let entries = c.args.batch.entries in
    let there = subst (λ (r : RunnerRec). IsSome (incoming r.plan r.node end)) (sym c.self.view_is) c.requires.there in
    let on = subst (λ (r : RunnerRec). seen_at r.horizon end ≤ to) (sym c.self.view_is) c.requires.on in
    let own = subst (λ (r : RunnerRec). (link : LinkNumber) → incoming r.plan r.node end ≡ Some link → entries ≡ history r.plan link (seen_at r.horizon end) to) (sym c.self.view_is) c.requires.own in
    let went : is_ok c.append.result ≡ true = first_of (cc, search rules, grind (arith)) in
    let is = went-well c.append.result went c.append.ensures.ok in (
      c.self.invariant.0,
      runner-taken i.plan.value i.clock to entries i.node end i.horizon i.inlets i.outlets i.published c.self.invariant.1.links there on own i.seat i.pins c.see.new.self c.append.new.self c.self.invariant.1 c.see.ensures.ends is,
    )
