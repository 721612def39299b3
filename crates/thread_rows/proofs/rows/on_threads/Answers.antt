use Rattle.std.proofs.Common.{sym, subst}
use Rattle.step_model.specs.ThreadRows.{threads_row}
use Rattle.core_units.specs.Units.{Ends}
use Rattle.thread_rows.proofs.rows.on_threads.Goals as goal

pub returns-in-Ssync : goal.returns-in-Ssync
returns-in-Ssync c = record {
  row =
      λ here id slot.
      subst (λ ins. Ends c.ssync.result c.args.units.now c.ssync.new.units (threads_row here c.args.units.now c.args.k ins)) (sym c.in-Ssync.is) (c.ssync.ensures.row here);
}

pub returns-in-Freet : goal.returns-in-Freet
returns-in-Freet c = record {
  row =
      λ here id slot.
      subst (λ ins. Ends c.freet.result c.args.units.now c.freet.new.units (threads_row here c.args.units.now c.args.k ins)) (sym c.in-Freet.is) (c.freet.ensures.row here);
}
