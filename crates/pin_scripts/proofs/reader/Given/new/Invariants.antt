use Rattle.std.proofs.Common.{◌≡◌, map, take}
use Rattle.pin_scripts.specs.Facts.{node_without_lines}
use Rattle.pin_scripts.proofs.reader.Given.new.Given as goal

abbrev pub invariant-loop-number : goal.invariant-loop-number
invariant-loop-number l = l.nodes.items ≡ map node_without_lines (take l.number-index l.numbers)
