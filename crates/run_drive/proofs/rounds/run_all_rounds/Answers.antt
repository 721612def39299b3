use Rattle.std.proofs.Common.{rules, ◌≡◌, true, false, ap, subst, arith}
use Rattle.sys_plan.specs.Plan.{IsPlan}
use Rattle.round_laws.specs.Rounds.{all_at_limit}
use Rattle.node_rounds.specs.Run.{RoundRunRec}
use Rattle.run_drive.proofs.Passes.{begins, one_more, goes_on, was_last}
use Rattle.run_drive.proofs.rounds.run_all_rounds.Goals as goal

pub loop-alloc-init : goal.loop-alloc-init
loop-alloc-init g c = begins c.args.plan.now.value c.args.limit c.in_ok-run.run' c.in_ok-run.ensures.new

pub loop-alloc-smaller : goal.loop-alloc-smaller
loop-alloc-smaller g c =
    let plan = c.args.plan.now.value in
    let run = c.loop-alloc.run in
    let is : IsPlan plan = subst IsPlan c.deref.ensures c.keeps.ensures.plan in
    let test : all_at_limit run.plan run.limit run.passes ≡ false = search rules in
    omega (arith, one_more plan c.args.limit run c.loop-alloc.invariant c.rounds_by_first.ensures.more is test, ap (λ (r : RoundRunRec). r.passes) c.in_ok-next.ensures.passed)

pub loop-alloc-preserved : goal.loop-alloc-preserved
loop-alloc-preserved g c =
    let plan = c.args.plan.now.value in
    let run = c.loop-alloc.run in
    let is : IsPlan plan = subst IsPlan c.deref.ensures c.keeps.ensures.plan in
    let test : all_at_limit run.plan run.limit run.passes ≡ false = search rules in
    goes_on plan c.args.limit run c.loop-alloc.invariant c.in_ok-next.next (one_more plan c.args.limit run c.loop-alloc.invariant c.rounds_by_first.ensures.more is test) c.in_ok-next.ensures.passed

pub returns : goal.returns
returns g c =
    let run = c.loop-alloc.run in
    let test : all_at_limit run.plan run.limit run.passes ≡ true = search rules in
    record { run = was_last c.args.plan.now.value c.args.limit run c.loop-alloc.invariant c.rounds_by_first.ensures.not_before test }
