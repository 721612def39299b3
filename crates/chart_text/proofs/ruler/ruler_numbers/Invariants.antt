use Rattle.std.proofs.Common.{◌≡◌}
use Rattle.chart_model.specs.Chart.{ruler_numbers}
use Rattle.chart_text.proofs.ruler.ruler_numbers.Given as goal

abbrev pub invariant-loop-k : goal.invariant-loop-k
invariant-loop-k l = l.numbers ≡ ruler_numbers l.from l.k
