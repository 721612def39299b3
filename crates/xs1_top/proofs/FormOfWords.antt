-- No words have no form, nor have more than three.
use Rattle.std.proofs.Common.{◌≡◌, ◌<◌, List, [], ◌∷◌, map, length, None, refl, arith}
use Rattle.std.specs.Prelude.{String, string_bytes}
use Rattle.answer_model.specs.Forms.{form_of_words}

pub form_of_words-none : {A : Type 0} (words : List (String A)) → length words < 1 → None ≡ form_of_words (map string_bytes words)
unfolding form_of_words
form_of_words-none [] h = refl
form_of_words-none (a ∷ words) h = absurd (omega arith)

pub form_of_words-many : {A : Type 0} (words : List (String A)) → 3 < length words → None ≡ form_of_words (map string_bytes words)
unfolding form_of_words
form_of_words-many [] h = absurd (omega arith)
form_of_words-many (a ∷ []) h = absurd (omega arith)
form_of_words-many (a ∷ b ∷ []) h = absurd (omega arith)
form_of_words-many (a ∷ b ∷ d ∷ []) h = absurd (omega arith)
form_of_words-many (a ∷ b ∷ d ∷ e ∷ words) h = refl
