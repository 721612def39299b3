use Rattle.std.proofs.Common.{List, ◌++◌, ◌∷◌, [], sym, ap, ◌∙◌}
use Rattle.source_model.specs.declared.layout.Place.{Place}
use Rattle.source_model.specs.Layout.{define}
use Rattle.xs_assembler.specs.Names.{NameTable, labels_at}
use Rattle.xs_assembler.proofs.NameTable.{table_same, table_more}
use Rattle.xs_assembler.proofs.names.Names.define.Goals as goal

pub returns-in_ok-push-clause-defined : goal.returns-in_ok-push-clause-defined
returns-in_ok-push-clause-defined c =
    table_more c.args.name.now c.args.place 0 c.self.inside.symbols.labels c.define.new.self.labels c.self.inside.places.items c.self.invariant
    (sym c.is_reserved.ensures.value ∙ c.if-is_reserved.false)
    c.in_ok-define.ensures.ok
    c.push.new.self.items
    (c.in_ok-push.ensures.items ∙ ap (λ (ps : List Place). ps ++ c.args.place ∷ []) c.in_ok-reserve.ensures.items)
    (sym c.if-branch.true ∙ c.in_ok-define.ensures.is_new)
    ∙ ap (λ (t : NameTable). define c.args.place c.args.name.now t.labels) c.self.view_is

pub returns-else-branch-clause-defined : goal.returns-else-branch-clause-defined
returns-else-branch-clause-defined c =
    ap (λ (ps : List Place). labels_at c.define.new.self.labels ps) c.in_ok-reserve.ensures.items
    ∙ (table_same c.args.name.now c.args.place 0 c.self.inside.symbols.labels c.define.new.self.labels c.self.inside.places.items c.self.invariant
    (sym c.is_reserved.ensures.value ∙ c.if-is_reserved.false)
    c.in_ok-define.ensures.ok
    (sym c.if-branch.false ∙ c.in_ok-define.ensures.is_new)
    ∙ ap (λ (t : NameTable). define c.args.place c.args.name.now t.labels) c.self.view_is)
