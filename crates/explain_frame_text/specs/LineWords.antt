-- A word of a line, as it is kept.
use Rattle.explain_model.specs.Words.{PlacedWord}
use Rattle.explain_frame_text.specs.declared.line_words.LineWord.{LineWord}

abbrev pub word_of : LineWord → PlacedWord
word_of w = record { at = w.at; bytes = w.bytes.now }
