use Rattle.std.proofs.Common.{◌≡◌, ◌-◌, false, [], length, take}
use Rattle.std.specs.Prelude.{slice_index_or}
use Rattle.byte_forms.specs.Forms.{read_chain}
use Rattle.switch_forms.specs.Ends.{link_end}
use Rattle.switch_forms.proofs.link_end.read_link_ends.Given as goal

abbrev pub invariant-loop-end : goal.invariant-loop-end
invariant-loop-end l =
    record {
      len : length l.ends ≡ 8;
      so_far : read_chain (λ before. link_end (slice_index_or l.there (length before) false) l.slot) (8 - l.end) (take l.end l.ends) l.from
          ≡ read_chain (λ before. link_end (slice_index_or l.there (length before) false) l.slot) 8 [] l.fn.from;
    }
