use Rattle.std.proofs.Common.{sym, arith}
use Rattle.std.proofs.lemmas.List.{take_all, length-take-le}
use Rattle.warning_text.proofs.texts.first_ones.Goals as goal

pub returns-then-warnings-le-MOST_WARNINGS : goal.returns-then-warnings-le-MOST_WARNINGS
returns-then-warnings-le-MOST_WARNINGS c = sym (take_all 100 c.args.warnings.now c.if-warnings-le-MOST_WARNINGS.true)

pub slice_bounds-result-end : goal.slice_bounds-result-end
slice_bounds-result-end c = sym (length-take-le 100 c.args.warnings.now (omega (arith, c.if-warnings-le-MOST_WARNINGS.false)))
