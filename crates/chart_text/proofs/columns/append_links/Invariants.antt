use Rattle.std.proofs.Common.{◌≡◌, ◌++◌, map, take}
use Rattle.chart_model.specs.Columns.{link_char}
use Rattle.chart_text.proofs.columns.append_links.Given as goal

abbrev pub invariant-loop-end : goal.invariant-loop-end
invariant-loop-end l = l.out ≡ l.initial.out ++ map link_char (take l.end-index l.ends)
