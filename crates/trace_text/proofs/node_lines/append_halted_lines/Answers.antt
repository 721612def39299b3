use Rattle.std.proofs.Common.{length, ◌≤◌, arith}
use Rattle.xs_model.specs.Threads.{fresh_thread}
use Rattle.trace_text.proofs.TraceLines.{one_more, none_left, halted_lines-next, halted_lines-end}
use Rattle.trace_text.proofs.node_lines.append_halted_lines.Goals as goal

pub loop-k-preserved : goal.loop-k-preserved
loop-k-preserved c =
    let split = halted_lines-next c.args.node c.loop-k.k c.args.core.now.core.threads fresh_thread c.run_of.result (omega (arith, c.run_of.ensures.threads)) c.run_of.ensures.value in
    record {
      threads = λ _. c.run_of.ensures.threads;
      lines = one_more _ _ _ _ _ _ c.in_ok-append_halted_line.ensures split c.loop-k.invariant.lines;
    }

pub returns : goal.returns
returns c =
    let eight : length c.args.core.now.core.threads ≤ c.loop-k.k = omega (arith, c.loop-k.invariant.threads (omega arith)) in
    none_left _ _ _ (halted_lines-end c.args.node c.loop-k.k c.args.core.now.core.threads eight) c.loop-k.invariant.lines
