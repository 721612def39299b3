use Rattle.std.proofs.Common.{sym, ◌∙◌}
use Rattle.xs_instructions.proofs.Names.{same_name-is}
use Rattle.xs_instructions.proofs.symbols.same_name.Goals as goal

pub returns : goal.returns
returns c = record { value = c.eq.ensures ∙ sym (same_name-is c.args.known.now c.args.name.now) }
