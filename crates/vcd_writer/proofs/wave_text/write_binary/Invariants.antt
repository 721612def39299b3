use Rattle.std.proofs.Common.{◌≡◌, ◌≤◌, length, drop}
use Rattle.wave_model.specs.Lines.{binary}
use Rattle.vcd_writer.proofs.Binary.{digits_before}
use Rattle.vcd_writer.proofs.wave_text.write_binary.Given as goal

abbrev pub invariant-loop-at : goal.invariant-loop-at
invariant-loop-at l = record {
  within : l.at ≤ 64;
  size : length l.buffer ≡ 64;
  written : digits_before l.at l.left (drop l.at l.buffer) ≡ binary l.value;
}

abbrev pub decreases-loop-at : goal.decreases-loop-at
decreases-loop-at l = l.at
