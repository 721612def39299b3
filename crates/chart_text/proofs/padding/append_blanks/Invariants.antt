use Rattle.std.proofs.Common.{◌≡◌, ◌++◌, replicate}
use Rattle.chart_text.proofs.padding.append_blanks.Given as goal

abbrev pub invariant-loop : goal.invariant-loop
invariant-loop l = l.text ≡ l.initial.text ++ replicate l.counter 32
