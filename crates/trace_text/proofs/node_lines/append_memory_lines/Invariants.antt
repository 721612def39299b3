use Rattle.std.proofs.Common.{◌≡◌, ◌+◌, ◌*◌, ◌<◌, ◌++◌, length, drop}
use Rattle.xs_base.specs.declared.numbers.TheConstants.{MEMORY_START, MEMORY_BYTES}
use Rattle.xs_model.specs.Memory.{words_of}
use Rattle.trace_model.specs.Trace.{memory_lines}
use Rattle.trace_text.proofs.node_lines.append_memory_lines.Given as goal

abbrev pub invariant-loop-k : goal.invariant-loop-k
invariant-loop-k l = record {
  size : 0 < l.k → length l.core.core.memory ≡ MEMORY_BYTES;
  lines : l.out ++ memory_lines l.node (MEMORY_START + 4 * l.k) (words_of (drop (4 * l.k) l.core.core.memory)) ≡ l.initial.out ++ memory_lines l.node MEMORY_START (words_of l.core.core.memory);
}
