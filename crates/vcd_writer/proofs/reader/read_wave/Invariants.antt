use Rattle.std.proofs.Common.{◌≡◌, ◌+◌, ◌-◌, length}
use Rattle.xs_text.specs.Lines.{bytes_left}
use Rattle.xs_text.specs.Lines.{lines_of}
use Rattle.wave_model.specs.Reads.{wave_from, wave_of}
use Rattle.vcd_writer.proofs.reader.read_wave.Given as goal

-- the lines to come, after those that were taken, make the wave
abbrev pub invariant-loop-line : goal.invariant-loop-line
invariant-loop-line l = record {
  same_text : l.lines.text ≡ l.text;
  last : l.last ≡ l.lines.number;
  whole : wave_of l.text ≡ wave_from (l.lines.number + 1) l.reader (lines_of (bytes_left l.lines));
}

abbrev pub decreases-loop-line : goal.decreases-loop-line
decreases-loop-line l = length l.text - l.lines.at
