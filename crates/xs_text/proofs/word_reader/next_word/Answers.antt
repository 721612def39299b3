use Rattle.xs_text.proofs.FirstWord.{no_word, first_word}
use Rattle.xs_text.proofs.word_reader.next_word.Goals as goal

pub returns-then-length-eq0 : goal.returns-then-length-eq0
returns-then-length-eq0 c = no_word _ _ _ c.blank_length.ensures.length c.word_length-length.ensures.length c.if-length-eq0.true

pub returns : goal.returns
returns c = first_word _ _ _ c.blank_length.ensures.length c.word_length-length.ensures.length c.if-length-eq0.false
