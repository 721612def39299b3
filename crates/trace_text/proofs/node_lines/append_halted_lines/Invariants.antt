use Rattle.std.proofs.Common.{◌≡◌, ◌<◌, ◌++◌, length, drop}
use Rattle.trace_model.specs.Trace.{halted_lines}
use Rattle.trace_text.proofs.node_lines.append_halted_lines.Given as goal

abbrev pub invariant-loop-k : goal.invariant-loop-k
invariant-loop-k l = record {
  threads : 0 < l.k → length l.core.core.threads ≡ 8;
  lines : l.out ++ halted_lines l.node l.k (drop l.k l.core.core.threads) ≡ l.initial.out ++ halted_lines l.node 0 l.core.core.threads;
}
