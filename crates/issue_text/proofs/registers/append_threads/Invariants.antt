use Rattle.std.proofs.Common.{◌≡◌, ◌++◌, drop}
use Rattle.trace_model.specs.Trace.{by_position}
use Rattle.issue_model.specs.Issues.{thread_text, thread_in}
use Rattle.issue_text.proofs.registers.append_threads.Given as goal

abbrev pub invariant-loop-j : goal.invariant-loop-j
invariant-loop-j l =
    l.out ++ by_position (λ j th. thread_text l.k l.done j th (thread_in l.after j)) l.j (drop l.j l.before)
    ≡ l.initial.out ++ by_position (λ j th. thread_text l.k l.done j th (thread_in l.after j)) 0 l.before
