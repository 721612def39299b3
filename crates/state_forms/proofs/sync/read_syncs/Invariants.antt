use Rattle.std.proofs.Common.{◌≡◌, ◌-◌, [], length, take}
use Rattle.byte_forms.specs.Forms.{read_chain}
use Rattle.state_forms.specs.Syncs.{sync}
use Rattle.state_forms.proofs.sync.read_syncs.Given as goal

abbrev pub invariant-loop-at : goal.invariant-loop-at
invariant-loop-at l =
    record {
      len : length l.states ≡ 7;
      so_far : read_chain (λ before. sync l.taken before) (7 - l.at) (take l.at l.states) l.from ≡ read_chain (λ before. sync l.taken before) 7 [] l.fn.from;
    }
