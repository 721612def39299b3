use Rattle.std.proofs.Common.{arith}
use Rattle.quiet_model.specs.Stirs.{some_eligible}
use Rattle.processor.proofs.Firsts.{none_further, first_further, none_to_end}
use Rattle.processor.proofs.quiet.search.Goals as goal

pub returns-then-first-end : goal.returns-then-first-end
returns-then-first-end c =
    first_further (some_eligible c.args.units.now) c.args.from c.loop-at.at c.loop-at.invariant.none c.args.bound c.min-end.result c.first_rested-first.result c.loop-at.invariant.after
    (omega (arith, c.min-end.ensures)) c.first_rested-first.ensures c.if-first-end.true

pub loop-at-preserved : goal.loop-at-preserved
loop-at-preserved c =
    let may = some_eligible c.args.units.now in
    record {
      after = omega (arith, c.loop-at.invariant.after, c.loop-at-test.true, c.able_at-here.ensures.now, c.saturating_add.ensures, c.min-end.ensures);
      none =
          none_further may c.args.from c.loop-at.at c.loop-at.invariant.none c.min-end.result
          (none_to_end may c.loop-at.at c.min-end.result c.first_rested-first.result c.first_rested-first.ensures c.if-first-end.false);
      known = c.able_at-here.ensures.value;
    }
