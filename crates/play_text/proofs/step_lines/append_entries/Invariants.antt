use Rattle.std.proofs.Common.{◌≡◌, ◌++◌, take}
use Rattle.std.specs.List.{flat_map}
use Rattle.play_model.specs.PlayText.{entry_line}
use Rattle.play_text.proofs.step_lines.append_entries.Given as goal

abbrev pub invariant-loop-e : goal.invariant-loop-e
invariant-loop-e l = l.out ≡ l.initial.out ++ flat_map (entry_line l.node l.end) (take l.e-index l.entries)
