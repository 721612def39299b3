use Rattle.std.proofs.Common.{◌≡◌, ◌++◌, map, take}
use Rattle.explain_model.specs.Quote.{under_byte}
use Rattle.marked_lines.proofs.quote.append_under.Given as goal

abbrev pub invariant-loop-b : goal.invariant-loop-b
invariant-loop-b l = l.out ≡ l.initial.out ++ map under_byte (take l.b-index l.line)
