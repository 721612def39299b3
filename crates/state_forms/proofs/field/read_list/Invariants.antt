use Rattle.std.proofs.Common.{◌≡◌, ◌-◌, [], map}
use Rattle.byte_forms.specs.Forms.{read_chain}
use Rattle.state_forms.proofs.field.read_list.Given as goal

abbrev pub invariant-loop : goal.invariant-loop
invariant-loop g l =
    read_chain (λ before. g.T.Field.form) (l.count - l.counter) (map g.T.Field.view l.elements.items) l.from ≡ read_chain (λ before. g.T.Field.form) l.count [] l.fn.from
