use Rattle.std.proofs.Common.{◌≡◌, ◌-◌, length}
use Rattle.xs_text.specs.Lines.{lines_of, bytes_left}
use Rattle.system_model.specs.Frame.{have_no_words}
use Rattle.system_text.proofs.frame_reader.has_words.Given as goal

abbrev pub invariant-loop-line : goal.invariant-loop-line
invariant-loop-line l = record {
  same_text : l.lines.text ≡ l.text;
  left : have_no_words (lines_of (bytes_left l.lines)) ≡ have_no_words (lines_of l.text);
}

abbrev pub decreases-loop-line : goal.decreases-loop-line
decreases-loop-line l = length l.text - l.lines.at
