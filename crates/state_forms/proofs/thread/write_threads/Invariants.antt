use Rattle.std.proofs.Common.{◌≡◌, ◌++◌, [], take, drop}
use Rattle.std.specs.List.{zip}
use Rattle.xs_base.specs.Numbers.{Slot}
use Rattle.byte_forms.specs.Forms.{write_chain}
use Rattle.state_forms.specs.Threads.{thread}
use Rattle.state_forms.proofs.thread.write_threads.Given as goal

abbrev pub invariant-loop-k : goal.invariant-loop-k
invariant-loop-k l =
    (slot : Slot) → l.out ++ write_chain (λ before. thread slot) (zip (take l.k l.threads) (take l.k l.last)) (zip (drop l.k l.threads) (drop l.k l.last))
    ≡ l.fn.out ++ write_chain (λ before. thread slot) [] (zip l.threads l.last)
