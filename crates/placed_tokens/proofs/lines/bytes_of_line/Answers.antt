use Rattle.std.proofs.Common.{refl, sym, ◌∙◌}
use Rattle.xs_text.specs.Lines.{bytes_left}
use Rattle.placed_tokens.proofs.Counting.{none-at}
use Rattle.placed_tokens.proofs.lines.bytes_of_line.Goals as goal

pub returns : goal.returns
returns c = sym (none-at (bytes_left c.loop-line.lines) _ (c.in_default.ensures.end.0 refl)) ∙ c.loop-line.invariant.bytes
