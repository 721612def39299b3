use Rattle.std.proofs.Common.{◌≡◌, ◌-◌, [], length, map, take}
use Rattle.byte_forms.specs.Forms.{read_chain}
use Rattle.state_forms.proofs.field.read_places.Given as goal

abbrev pub invariant-loop-at : goal.invariant-loop-at
invariant-loop-at g l =
    record {
      len : length l.places ≡ length l.fn.places;
      so_far : read_chain (λ before. g.T.Field.form) (length l.fn.places - l.at) (map g.T.Field.view (take l.at l.places)) l.from
          ≡ read_chain (λ before. g.T.Field.form) (length l.fn.places) [] l.fn.from;
    }
