use Rattle.std.proofs.Common.{◌∙◌, arith}
use Rattle.std.proofs.lemmas.List.{take_all}
use Rattle.run_plan.proofs.Begins.{copied-more}
use Rattle.run_plan.proofs.begun.copy_of.Goals as goal

pub loop-e-preserved : goal.loop-e-preserved
loop-e-preserved c = record {
  entries =
      copied-more c.args.entries.now c.reserve.new.self.entries c.loop-e.e-index _ c.add.new.self.entries c.loop-e-test.true c.add.ensures.entries
      (c.reserve.ensures.entries ∙ c.loop-e.invariant.entries);
}

pub returns : goal.returns
returns c = record { entries = c.loop-e.invariant.entries ∙ take_all c.loop-e.e-index c.args.entries.now (omega arith) }
