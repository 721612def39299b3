use Rattle.std.proofs.Common.{ap, ◌∙◌}
use Rattle.xs_instructions.specs.Image.{SymbolTable, with_address}
use Rattle.xs_instructions.proofs.Entries.{address-set}
use Rattle.xs_instructions.proofs.symbols.Symbols.set_address.Goals as goal

pub returns-clause-address : goal.returns-clause-address
returns-clause-address c = address-set c.args.k c.args.at c.self.inside.labels.entries ∙ ap (λ (t : SymbolTable). with_address c.args.k c.args.at t.labels) c.self.view_is
