use Rattle.std.proofs.Common.{sym, ap, ◌∙◌}
use Rattle.xs_instructions.specs.Image.{SymbolTable}
use Rattle.xs_instructions.proofs.Entries.{one_more, not_some}
use Rattle.xs_instructions.proofs.Names.{IsUtf8-from_is_name}
use Rattle.indexmap.proofs.CallerLemmas.{insert_entry-new}
use Rattle.xs_instructions.proofs.symbols.Symbols.define.Goals as goal

pub returns-clause-ok : goal.returns-clause-ok
returns-clause-ok c =
    one_more c.self.inside.labels.entries c.insert.new.self.entries c.in_ok-key.key c.args.name.now c.args.at c.args.self.now.labels
    (ap (λ (t : SymbolTable). t.labels) c.self.view_is)
    (c.in_ok-key.ensures.ok (IsUtf8-from_is_name c.args.name.now c.requires))
    (sym c.address.ensures.value ∙ not_some c.address.result (sym c.is_some.ensures ∙ c.if-is_some.false))
    (λ absent. c.in_ok-insert.ensures.entries ∙ insert_entry-new _ c.self.inside.labels c.in_ok-key.key c.args.at absent)
