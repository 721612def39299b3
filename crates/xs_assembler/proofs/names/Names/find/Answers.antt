use Rattle.std.proofs.Common.{◌<◌, length, refl, sym, ap, ◌∙◌, arith}
use Rattle.std.proofs.lemmas.Option.{slice_get_read}
use Rattle.std.specs.Prelude.{slice_get, option_and_then}
use Rattle.source_model.specs.Layout.{place_of}
use Rattle.xs_assembler.specs.Names.{NameTable}
use Rattle.xs_assembler.proofs.NameTable.{find_is}
use Rattle.xs_assembler.proofs.names.Names.find.Goals as goal

pub returns-in-Some : goal.returns-in-Some
returns-in-Some c =
    let places = c.self.inside.places.items in
    let within : c.in-Some.k < length places = omega (arith, c.self.invariant, c.in-Some.ensures.within) in
    sym (slice_get_read places (length places) c.in-Some.k c.index.result.now refl within c.index.ensures)
    ∙ (ap (option_and_then (slice_get places)) c.in-Some.ensures.value
    ∙ (find_is c.args.name.now c.self.inside.symbols.labels places c.self.invariant
    ∙ ap (λ (t : NameTable). place_of t.labels c.args.name.now) c.self.view_is))

pub returns-in-None : goal.returns-in-None
returns-in-None c =
    ap (option_and_then (slice_get c.self.inside.places.items)) c.in-None.ensures.value
    ∙ (find_is c.args.name.now c.self.inside.symbols.labels c.self.inside.places.items c.self.invariant
    ∙ ap (λ (t : NameTable). place_of t.labels c.args.name.now) c.self.view_is)
