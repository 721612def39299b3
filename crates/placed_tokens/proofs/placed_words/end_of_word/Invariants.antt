use Rattle.std.proofs.Common.{◌≡◌, ◌+◌, ◌-◌, ◌≤◌, length, drop}
use Rattle.xs_text.specs.Words.{word_length}
use Rattle.placed_tokens.proofs.placed_words.end_of_word.Given as goal

abbrev pub invariant-loop-end : goal.invariant-loop-end
invariant-loop-end l = (l.end ≤ length l.line) × (l.end + word_length (drop l.end l.line) ≡ l.at + word_length (drop l.at l.line))

abbrev pub decreases-loop-end : goal.decreases-loop-end
decreases-loop-end l = length l.line - l.end
