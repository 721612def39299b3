use Rattle.std.proofs.Common.{◌≡◌, ◌≤◌, ◌-◌, ◌++◌, length, map}
use Rattle.explain_model.specs.Words.{words_left, placed_words}
use Rattle.explain_frame_text.specs.LineWords.{word_of}
use Rattle.explain_frame_text.proofs.line_words.words_of.Given as goal

abbrev pub invariant-loop-word : goal.invariant-loop-word
invariant-loop-word l = record {
  within : l.at ≤ length l.line;
  words : map word_of l.words.items ++ words_left l.line l.at ≡ placed_words l.line;
}

abbrev pub decreases-loop-word : goal.decreases-loop-word
decreases-loop-word l = length l.line - l.at
