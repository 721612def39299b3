use Rattle.std.proofs.Common.{◌≡◌, ◌++◌}
use Rattle.chart_model.specs.Columns.{thread_chars}
use Rattle.chart_text.proofs.columns.append_threads.Given as goal

abbrev pub invariant-loop-k : goal.invariant-loop-k
invariant-loop-k l = l.out ≡ l.initial.out ++ thread_chars l.run.plan l.slot l.n l.node l.k
