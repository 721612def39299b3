use Rattle.std.proofs.Common.{◌≡◌, ◌+◌, ◌-◌, length}
use Rattle.xs_text.specs.Lines.{lines_of, bytes_left}
use Rattle.pin_scripts.specs.Pins.{pins_of, pins_from}
use Rattle.pin_scripts.specs.Facts.{IsGiven, numbers_of}
use Rattle.pin_scripts.proofs.reader.read_pins.Given as goal

abbrev pub invariant-loop-line : goal.invariant-loop-line
invariant-loop-line l = record {
  same_text : l.lines.text ≡ l.text;
  numbers : numbers_of l.given.nodes.items ≡ l.nodes;
  is_given : IsGiven l.given.lines.items l.given.nodes.items;
  whole : pins_of l.nodes (lines_of l.text) ≡ pins_from l.nodes (l.lines.number + 1) l.given.lines.items (lines_of (bytes_left l.lines));
}

abbrev pub decreases-loop-line : goal.decreases-loop-line
decreases-loop-line l = length l.text - l.lines.at
