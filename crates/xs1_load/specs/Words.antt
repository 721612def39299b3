-- The words of the program, and its usage line.
use Rattle.std.specs.Prelude.{ℕ, Option, None, List, [], ◌∷◌, codes}
use Rattle.word_numbers.specs.Decimal.{decimal_up_to}

-- one word of one to ten decimal digits, of a value that 32 bits hold, and no other
abbrev pub number_of_words : List (List ℕ) → Option ℕ
number_of_words (word ∷ []) = decimal_up_to 4294967295 word
number_of_words _ = None

abbrev pub usage_text : List ℕ
usage_text = codes "usage: xs1_load NUMBER\n"
