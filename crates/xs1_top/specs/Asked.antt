-- What words ask of the program, and what is answered to them.
use Rattle.std.specs.Prelude.{ℕ, ◌≡◌, None, List}
use Rattle.program_calls.specs.Asked.{Asked}
use Rattle.answer_model.specs.Forms.{form_of_words, asks_for_input, usage_text}
use Rattle.answer_model.specs.Top.{answer, most_taken, most_reads}

abbrev pub asked_of : List (List ℕ) → Asked
asked_of words = record {
  no_form = form_of_words words ≡ None;
  usage = usage_text;
  asks = asks_for_input (form_of_words words);
  most = most_taken (form_of_words words);
  most_reads = most_reads (form_of_words words);
  answer = answer words;
}
