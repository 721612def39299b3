use Rattle.std.proofs.Common.{List, ℕ, ap, ◌∙◌}
use Rattle.std.specs.Prelude.{position}
use Rattle.std.specs.Map.{keys_of}
use Rattle.xs_instructions.specs.Image.{SymbolTable, number_of}
use Rattle.xs_instructions.proofs.Entries.{is_key, position-is, no_number}
use Rattle.xs_instructions.proofs.symbols.Symbols.number.Goals as goal

pub returns-in-Ok-clause-value : goal.returns-in-Ok-clause-value
returns-in-Ok-clause-value c =
    let entries = c.self.inside.labels.entries in
    c.get_index_of.ensures.index
    ∙ (ap (λ (n : List ℕ). position (is_key n) (keys_of entries)) c.in-Ok.ensures.cases.0
    ∙ (position-is c.args.name.now entries ∙ ap (λ (t : SymbolTable). number_of t.labels c.args.name.now) c.self.view_is))

pub returns-in-Err-clause-value : goal.returns-in-Err-clause-value
returns-in-Err-clause-value c = no_number c.args.name.now c.self.inside.labels.entries c.in-Err.ensures.cases.0 ∙ ap (λ (t : SymbolTable). number_of t.labels c.args.name.now) c.self.view_is
