use Rattle.std.proofs.Common.{◌≡◌, length, drop}
use Rattle.system_text.specs.Forms.{end_numbers}
use Rattle.system_text.specs.LineWords.{bytes_of}
use Rattle.system_text.proofs.BitForms.{after}
use Rattle.system_text.proofs.frame_lines.end_numbers.Given as goal

abbrev pub invariant-loop-word : goal.invariant-loop-word
invariant-loop-word l = record {
  so_far : after l.ends.items (end_numbers (bytes_of (drop l.word-index l.words))) ≡ end_numbers (bytes_of l.words);
  count : length l.ends.items ≡ l.word-index;
}
