use Rattle.std.proofs.Common.{◌≡◌, ◌++◌, length}
use Rattle.xs_text.specs.Words.{words_of_line}
use Rattle.system_text.specs.LineWords.{bytes_of}
use Rattle.system_text.proofs.words.line_words.Given as goal

abbrev pub invariant-loop-bytes : goal.invariant-loop-bytes
invariant-loop-bytes l = bytes_of l.words.items ++ words_of_line l.left ≡ words_of_line l.line

abbrev pub decreases-loop-bytes : goal.decreases-loop-bytes
decreases-loop-bytes l = length (words_of_line l.left)
