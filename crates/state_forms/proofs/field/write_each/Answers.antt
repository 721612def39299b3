use Rattle.std.proofs.Common.{◌≡◌, ◌+◌, List, [], ◌∷◌, ◌++◌, get_or, map, take, drop, sym, ap, ◌∙◌}
use Rattle.std.proofs.lemmas.List.{map_push, take_more, drop_more, drop_all}
use Rattle.byte_forms.specs.Forms.{Form, write_chain}
use Rattle.byte_forms.proofs.Lists.{writes_on, writes_all}
use Rattle.state_forms.proofs.field.write_each.Goals as goal

pub loop-element-preserved : goal.loop-element-preserved
loop-element-preserved g c =
    let form : List g.T.Field.Value → Form g.T.Field.Value = λ before. g.T.Field.form in
    let view = g.T.Field.view in
    let xs = c.args.elements.now in
    let i = c.loop-element.element-index in
    let x = c.element-item.result in
    let here : get_or xs i x ≡ x = sym c.element-item.is in
    let front : map view (take (i + 1) xs) ≡ map view (take i xs) ++ view x ∷ [] = rw (take_more xs i x c.loop-element-test.true, here) (map_push view (take i xs) x) in
    let rest : map view (drop i xs) ≡ view x ∷ map view (drop (i + 1) xs) =
    ap (map view) (drop_more xs i x c.loop-element-test.true) ∙ ap (λ (y : g.row.T.Denot). view y ∷ map view (drop (i + 1) xs)) here in
    let so_far = rw rest at c.loop-element.invariant in
    rw (c.in_ok-write.ensures.value, front) (writes_on form c.loop-element.out (map view (take i xs)) (view x) (map view (drop (i + 1) xs))
    (c.args.out.now ++ write_chain form [] (map view xs)) so_far)

pub returns : goal.returns
returns g c =
    let form : List g.T.Field.Value → Form g.T.Field.Value = λ before. g.T.Field.form in
    let xs = c.args.elements.now in
    let i = c.loop-element.element-index in
    let so_far = rw (drop_all i xs c.loop-element-test.false) at c.loop-element.invariant in
    record { value = writes_all form c.loop-element.out (map g.T.Field.view (take i xs)) (c.args.out.now ++ write_chain form [] (map g.T.Field.view xs)) so_far }
