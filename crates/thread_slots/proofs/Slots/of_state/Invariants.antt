use Rattle.thread_slots.proofs.Marked.{AreMarkedBelow}
use Rattle.thread_slots.proofs.Slots.of_state.Given as goal

abbrev pub invariant-loop-th : goal.invariant-loop-th
invariant-loop-th l = AreMarkedBelow l.th l.last l.slots.last
