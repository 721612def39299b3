use Rattle.std.proofs.Common.{◌≡◌, ◌-◌, [], length, take}
use Rattle.std.specs.List.{zip}
use Rattle.byte_forms.specs.Forms.{read_chain}
use Rattle.state_forms.specs.Threads.{thread}
use Rattle.state_forms.proofs.thread.read_threads.Given as goal

abbrev pub invariant-loop-k : goal.invariant-loop-k
invariant-loop-k l =
    record {
      threads : length l.threads ≡ 8;
      last : length l.last ≡ 8;
      so_far : read_chain (λ before. thread l.fn.slot) (8 - l.k) (zip (take l.k l.threads) (take l.k l.last)) l.from ≡ read_chain (λ before. thread l.fn.slot) 8 [] l.fn.from;
    }
