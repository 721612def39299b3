-- A word as it is read.
use Rattle.explain_model.specs.Words.{PlacedWord}
use Rattle.placed_tokens.specs.declared.word.Word.{Word}

abbrev pub word_of : Word → PlacedWord
word_of w = record { at = w.at; bytes = w.bytes.now }
