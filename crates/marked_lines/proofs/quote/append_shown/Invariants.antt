use Rattle.std.proofs.Common.{◌≡◌, ◌++◌, map, take}
use Rattle.explain_model.specs.Quote.{shown_byte}
use Rattle.marked_lines.proofs.quote.append_shown.Given as goal

abbrev pub invariant-loop-b : goal.invariant-loop-b
invariant-loop-b l = l.out ≡ l.initial.out ++ map shown_byte (take l.b-index l.line)
