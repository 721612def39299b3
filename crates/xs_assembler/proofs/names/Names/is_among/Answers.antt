use Rattle.std.proofs.Common.{take, ap, ◌∙◌}
use Rattle.std.specs.Prelude.{is_some}
use Rattle.source_model.specs.Layout.{place_of}
use Rattle.xs_assembler.specs.Names.{NameTable}
use Rattle.xs_assembler.proofs.NameTable.{is_below, among_is}
use Rattle.xs_assembler.proofs.names.Names.is_among.Goals as goal

pub returns-in-Some : goal.returns-in-Some
returns-in-Some c =
    ap (is_below c.args.first) c.in-Some.ensures.value
    ∙ (among_is c.args.name.now c.args.first c.self.inside.symbols.labels c.self.inside.places.items c.self.invariant
    ∙ ap (λ (t : NameTable). is_some (place_of (take c.args.first t.labels) c.args.name.now)) c.self.view_is)

pub returns-in-None : goal.returns-in-None
returns-in-None c =
    ap (is_below c.args.first) c.in-None.ensures.value
    ∙ (among_is c.args.name.now c.args.first c.self.inside.symbols.labels c.self.inside.places.items c.self.invariant
    ∙ ap (λ (t : NameTable). is_some (place_of (take c.args.first t.labels) c.args.name.now)) c.self.view_is)
