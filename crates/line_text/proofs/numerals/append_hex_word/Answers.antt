-- The text ends in the ten characters, each of which is a digit of the word.
use Rattle.std.proofs.Common.{rules}
use Rattle.trace_model.specs.EventLines.{hex_word}
use Rattle.line_text.proofs.numerals.append_hex_word.Goals as goal

pub returns-clause-ok : goal.returns-clause-ok
unfolding hex_word
returns-clause-ok c = search rules
