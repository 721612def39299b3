use Rattle.std.proofs.Common.{sym, subst, ◌∙◌}
use Rattle.xs_model.specs.Record.{CoreRec}
use Rattle.step_model.specs.Rows.{effect}
use Rattle.core_units.specs.Units.{Ends}
use Rattle.processor.proofs.processor.Processor.execute.Goals as goal

pub returns-in-Threads : goal.returns-in-Threads
returns-in-Threads c = record {
  row =
      λ here edition id slot.
      subst (λ (old : CoreRec). Ends c.on_threads.result old c.on_threads.new.units (effect here old c.args.k c.args.ins)) c.self-in-Threads.view_is
      (subst (λ ins. Ends c.on_threads.result c.self-in-Threads.inside.units c.on_threads.new.units (effect here c.self-in-Threads.inside.units c.args.k ins)) (sym c.in-Threads.is) (c.on_threads.ensures.row here (id ∙ sym c.id.ensures) slot));
}
