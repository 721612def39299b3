use Rattle.std.proofs.Common.{◌≡◌, true, sym, subst, arith}
use Rattle.sys_plan.specs.Plan.{IsPlan}
use Rattle.round_laws.specs.Rounds.{all_at_limit, rounds}
use Rattle.node_rounds.specs.Run.{RoundRunRec}
use Rattle.run_drive.proofs.rounds.drive_rounds.Goals as goal

pub into_parts-requires : goal.into_parts-requires
into_parts-requires g c =
    let plan = c.args.plan.now.value in
    let is : IsPlan plan = subst IsPlan c.deref.ensures c.keeps.ensures.plan in
    let all = c.rounds_by_first.ensures.from_then_on plan c.args.limit (rounds plan c.args.limit) is (omega arith) in
    record { at_limit = subst (λ (r : RoundRunRec). all_at_limit r.plan r.limit r.passes ≡ true) (sym c.in_ok-run.ensures.run) all }
