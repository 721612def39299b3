use Rattle.std.proofs.Common.{◌≡◌, ◌++◌, map, take}
use Rattle.std.specs.List.{flat_map}
use Rattle.play_model.specs.PlayText.{played_lines}
use Rattle.run_drive.specs.Played.{line_of}
use Rattle.play_text.proofs.whole_play.append_steps.Given as goal

abbrev pub invariant-loop-line : goal.invariant-loop-line
invariant-loop-line l = l.out ≡ l.initial.out ++ flat_map (played_lines l.nodes) (map line_of (take l.line-index l.lines))
