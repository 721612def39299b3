use Rattle.std.proofs.Common.{◌≡◌, ◌++◌, map, take}
use Rattle.chart_model.specs.Columns.{sent_char}
use Rattle.chart_text.proofs.columns.append_sent.Given as goal

abbrev pub invariant-loop-chan : goal.invariant-loop-chan
invariant-loop-chan l = l.out ≡ l.initial.out ++ map sent_char (take l.chan-index l.chans)
