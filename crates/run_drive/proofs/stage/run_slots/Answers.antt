use Rattle.std.proofs.Common.{sym, ◌∙◌}
use Rattle.run_drive.proofs.Slots.{all_ran, rest_stays, leads_on, stopped}
use Rattle.run_drive.proofs.stage.run_slots.Goals as goal

pub returns-then-not-branch : goal.returns-then-not-branch
returns-then-not-branch c = record {
  clock = stopped c.args.runner.now c.loop.runner c.args.count c.loop.counter c.loop.invariant.rest c.loop.invariant.leads c.runs_on.new.runner c.in_ok-runs_on.ensures.slot (sym c.in_ok-runs_on.ensures.told ∙ c.if-not-branch.true);
}

pub loop-preserved : goal.loop-preserved
loop-preserved c = record {
  rest = rest_stays c.args.runner.now c.loop.runner c.args.count c.loop.counter c.loop.invariant.rest c.loop.invariant.leads c.runs_on.new.runner c.in_ok-runs_on.ensures.slot;
  leads = leads_on c.args.runner.now c.loop.runner c.args.count c.loop.counter c.loop.invariant.rest c.loop.invariant.leads c.runs_on.new.runner c.in_ok-runs_on.ensures.slot c.loop-test.true;
}

pub returns : goal.returns
returns c = record { clock = all_ran c.args.runner.now c.loop.runner c.args.count c.loop.counter c.loop.invariant.rest c.loop.invariant.leads c.loop-test.false }
