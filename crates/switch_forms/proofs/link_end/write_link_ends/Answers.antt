use Rattle.std.proofs.Common.{◌≡◌, ◌+◌, false, List, [], ◌∷◌, ◌++◌, length, get_or, take, drop, sym, ap, ◌∙◌}
use Rattle.std.specs.Prelude.{slice_index_or}
use Rattle.std.proofs.lemmas.List.{take_more, drop_more, drop_all}
use Rattle.link_ends.specs.declared.state.EndState.{EndState}
use Rattle.byte_forms.specs.Forms.{Form, write_chain}
use Rattle.byte_forms.proofs.Lists.{writes_on, writes_all}
use Rattle.switch_forms.specs.Ends.{link_end}
use Rattle.switch_forms.proofs.link_end.write_link_ends.Goals as goal

pub loop-end-preserved : goal.loop-end-preserved
loop-end-preserved c = λ there slot.
    let form : List EndState → Form EndState = λ before. link_end (slice_index_or there (length before) false) slot in
    let xs = c.args.ends.now in
    let i = c.loop-end.end-index in
    let x = c.end-item.result in
    let here : get_or xs i x ≡ x = sym c.end-item.is in
    let front : take (i + 1) xs ≡ take i xs ++ x ∷ [] = take_more xs i x c.loop-end-test.true ∙ ap (λ (y : EndState). take i xs ++ y ∷ []) here in
    let rest : drop i xs ≡ x ∷ drop (i + 1) xs = drop_more xs i x c.loop-end-test.true ∙ ap (λ (y : EndState). y ∷ drop (i + 1) xs) here in
    let so_far = rw rest at c.loop-end.invariant there slot in
    rw (c.in_ok-write_link_end.ensures.value (slice_index_or there (length (take i xs)) false) slot, front) (writes_on form c.loop-end.out (take i xs) x (drop (i + 1) xs) (c.args.out.now ++ write_chain form [] xs) so_far)

pub returns : goal.returns
returns c =
    let xs = c.args.ends.now in
    let i = c.loop-end.end-index in
    record {
      value = λ there slot.
          let form : List EndState → Form EndState = λ before. link_end (slice_index_or there (length before) false) slot in
          let so_far = rw (drop_all i xs c.loop-end-test.false) at c.loop-end.invariant there slot in
          writes_all form c.loop-end.out (take i xs) (c.args.out.now ++ write_chain form [] xs) so_far;
    }
