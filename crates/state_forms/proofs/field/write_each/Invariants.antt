use Rattle.std.proofs.Common.{◌≡◌, ◌++◌, [], map, take, drop}
use Rattle.byte_forms.specs.Forms.{write_chain}
use Rattle.state_forms.proofs.field.write_each.Given as goal

abbrev pub invariant-loop-element : goal.invariant-loop-element
invariant-loop-element g l =
    l.out ++ write_chain (λ before. g.T.Field.form) (map g.T.Field.view (take l.element-index l.elements)) (map g.T.Field.view (drop l.element-index l.elements))
    ≡ l.fn.out ++ write_chain (λ before. g.T.Field.form) [] (map g.T.Field.view l.elements)
