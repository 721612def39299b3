use Rattle.placed_tokens.proofs.PlacedWords.{word_here}
use Rattle.placed_tokens.proofs.placed_words.word_at.Goals as goal

pub returns-clause-word : goal.returns-clause-word
returns-clause-word c = word_here c.args.line.now c.args.at _ c.requires.there c.requires.begins c.end_of_word-end.ensures.length c.end_of_word-end.ensures.within
