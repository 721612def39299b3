use Rattle.std.proofs.Common.{◌≡◌, ◌-◌, [], length, take}
use Rattle.byte_forms.specs.Forms.{read_chain}
use Rattle.switch_forms.specs.Inputs.{input}
use Rattle.switch_forms.proofs.input.read_inputs.Given as goal

abbrev pub invariant-loop-at : goal.invariant-loop-at
invariant-loop-at l =
    record {
      len : length l.states ≡ 40;
      so_far : read_chain (λ before. input l.used l.there before) (40 - l.at) (take l.at l.states) l.from ≡ read_chain (λ before. input l.used l.there before) 40 [] l.fn.from;
    }
