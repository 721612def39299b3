use Rattle.std.proofs.Common.{length, sym, ap, ◌∙◌}
use Rattle.xs_assembler.specs.Names.{NameTable}
use Rattle.xs_assembler.proofs.NameTable.{labels_at-length}
use Rattle.xs_assembler.proofs.names.Names.count.Goals as goal

pub returns : goal.returns
returns c =
    c.count.ensures.value
    ∙ (sym (labels_at-length c.self.inside.symbols.labels c.self.inside.places.items c.self.invariant ∙ c.self.invariant) ∙ ap (λ (t : NameTable). length t.labels) c.self.view_is)
