use Rattle.std.proofs.Common.{ℕ, ◌≡◌, ◌<◌, None, length, get_or}
use Rattle.thread_slots.proofs.Slots.state.Given as goal

-- those of the threads below this one
abbrev pub invariant-loop-th : goal.invariant-loop-th
invariant-loop-th l = (length l.last ≡ 8) × ((k : ℕ) → k < l.th → get_or l.last k None ≡ get_or l.self.last k None)
