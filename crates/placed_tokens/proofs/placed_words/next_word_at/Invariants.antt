use Rattle.std.proofs.Common.{◌≡◌, ◌-◌, ◌≤◌, length}
use Rattle.explain_model.specs.Words.{words_left}
use Rattle.placed_tokens.proofs.placed_words.next_word_at.Given as goal

abbrev pub invariant-loop-at : goal.invariant-loop-at
invariant-loop-at l = (l.at ≤ length l.line) × (l.at-2 ≤ l.at) × (words_left l.line l.at ≡ words_left l.line l.at-2)

abbrev pub decreases-loop-at : goal.decreases-loop-at
decreases-loop-at l = length l.line - l.at
