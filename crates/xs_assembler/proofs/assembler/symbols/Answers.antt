use Rattle.std.proofs.Common.{◌≡◌, ◌<◌, ◌^◌, List, length, map, sym, ap, ◌∙◌, subst, arith}
use Rattle.std.specs.List.{AllByRecursion}
use Rattle.xs_instructions.specs.Image.{Symbol}
use Rattle.source_model.specs.declared.layout.Place.{Place}
use Rattle.source_model.specs.Layout.{Label}
use Rattle.source_model.specs.Source.{symbol_of}
use Rattle.xs_assembler.specs.Names.{labels_at}
use Rattle.xs_assembler.proofs.Addresses.{addressed_next, addressed-length, addressed_all, address_small}
use Rattle.xs_assembler.proofs.assembler.symbols.Goals as goal

pub address-requires-clause-small : goal.address-requires-clause-small
address-requires-clause-small c =
    let symbols = c.into_parts-symbols.result.0.labels in
    let places = c.deref-place-items.result.now in
    let is = ap (λ (ps : List Place). labels_at symbols ps) c.deref-place-items.ensures.value ∙ c.into_parts-symbols.ensures.labels in
    let long = ap (λ (ps : List Place). length ps) c.deref-place-items.ensures.value ∙ c.into_parts-symbols.ensures.places in
    let Small : List Label → Type 0 = λ ls. AllByRecursion (λ (s : Symbol). s.1 < 2 ^ 32) (map (symbol_of c.args.whole) ls) in
    address_small c.args.whole c.loop-k.k symbols places _ c.loop-k-test.true long (subst Small (sym is) c.requires.addresses)

pub set_address-requires : goal.set_address-requires
set_address-requires c =
    let symbols = c.into_parts-symbols.result.0.labels in
    let places = c.deref-place-items.result.now in
    let long : length places ≡ length symbols = ap (λ (ps : List Place). length ps) c.deref-place-items.ensures.value ∙ c.into_parts-symbols.ensures.places in
    omega (arith, ap (λ (ss : List Symbol). length ss) c.loop-k.invariant.0, addressed-length c.args.whole c.loop-k.k symbols places, long, c.loop-k-test.true)

pub loop-k-preserved : goal.loop-k-preserved
loop-k-preserved c =
    let symbols = c.into_parts-symbols.result.0.labels in
    let places = c.deref-place-items.result.now in
    let long = ap (λ (ps : List Place). length ps) c.deref-place-items.ensures.value ∙ c.into_parts-symbols.ensures.places in (
      addressed_next c.args.whole c.loop-k.k symbols places _ c.loop-k.symbols.labels c.set_address.new.self.labels c.address.result c.loop-k-test.true long
          c.loop-k.invariant.0
          c.address.ensures
          c.set_address.ensures.address,
      c.set_address.ensures.keyed ∙ c.loop-k.invariant.1,
    )

pub returns-clause-labels : goal.returns-clause-labels
returns-clause-labels c =
    let symbols = c.into_parts-symbols.result.0.labels in
    let places = c.deref-place-items.result.now in
    let is = ap (λ (ps : List Place). labels_at symbols ps) c.deref-place-items.ensures.value ∙ c.into_parts-symbols.ensures.labels in
    let long = ap (λ (ps : List Place). length ps) c.deref-place-items.ensures.value ∙ c.into_parts-symbols.ensures.places in
    c.loop-k.invariant.0 ∙ (addressed_all c.args.whole c.loop-k.k symbols places c.loop-k-test.false long ∙ ap (map (symbol_of c.args.whole)) is)
