use Rattle.std.proofs.Common.{◌≡◌, map, take}
use Rattle.issue_text.specs.Words.{word_of}
use Rattle.issue_text.proofs.words.keep_words.Given as goal

abbrev pub invariant-loop-at : goal.invariant-loop-at
invariant-loop-at l = l.words.items ≡ map (word_of l.core.core.memory) (take l.at-index l.addresses)
