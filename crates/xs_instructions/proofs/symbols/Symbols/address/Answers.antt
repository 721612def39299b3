use Rattle.std.proofs.Common.{List, ℕ, ap, ◌∙◌}
use Rattle.std.specs.Map.{lookup}
use Rattle.xs_instructions.specs.Image.{SymbolTable, address_of}
use Rattle.xs_instructions.proofs.Entries.{is_key, look_up-is, no_address}
use Rattle.xs_instructions.proofs.symbols.Symbols.address.Goals as goal

pub returns-in-Ok : goal.returns-in-Ok
returns-in-Ok c =
    let entries = c.self.inside.labels.entries in
    record {
      value =
          c.copied.ensures
          ∙ (c.get.ensures.value
          ∙ (ap (λ (n : List ℕ). lookup (is_key n) entries) c.in-Ok.ensures.cases.0
          ∙ (look_up-is c.args.name.now entries ∙ ap (λ (t : SymbolTable). address_of t.labels c.args.name.now) c.self.view_is)));
    }

pub returns-in-Err : goal.returns-in-Err
returns-in-Err c = record {
  value = no_address c.args.name.now c.self.inside.labels.entries c.in-Err.ensures.cases.0 ∙ ap (λ (t : SymbolTable). address_of t.labels c.args.name.now) c.self.view_is;
}
