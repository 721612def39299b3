-- The modes of a run: how the nodes are run makes no difference to what is answered, only to what may wait.
use Rattle.std.specs.Prelude.{ℕ, ◌≡◌, false, List, [], ◌∷◌, codes}
use Rattle.answer_model.specs.Forms.{form_of_words, form_may_wait}
use Rattle.answer_model.specs.Top.{answer, taken}

-- `run SLOTS`, and `run SLOTS MODE`
abbrev pub run_words : List ℕ → List (List ℕ)
run_words slots = codes "run" ∷ slots ∷ []

abbrev pub mode_words : List ℕ → List ℕ → List (List ℕ)
mode_words slots mode = codes "run" ∷ slots ∷ mode ∷ []

-- to each input, these words have the same text and the same status, and they take as much of it
pub record AreAlike (words others : List (List ℕ)) : Type 0 where
  pub answers : (input : List ℕ) → answer words input ≡ answer others input
  pub takes : (input : List ℕ) → taken words input ≡ taken others input

-- whatever the word of the slots says, refused or not
pub record ModesAreAlike : Type 0 where
  pub free : (slots : List ℕ) → form_of_words (mode_words slots (codes "free")) ≡ form_of_words (run_words slots)
  pub serial : (slots : List ℕ) → AreAlike (mode_words slots (codes "serial")) (run_words slots)
  pub rounds : (slots : List ℕ) → AreAlike (mode_words slots (codes "rounds")) (run_words slots)
  -- these two wait for nobody
  pub serial_goes_on : (slots : List ℕ) → form_may_wait (form_of_words (mode_words slots (codes "serial"))) ≡ false
  pub rounds_go_on : (slots : List ℕ) → form_may_wait (form_of_words (mode_words slots (codes "rounds"))) ≡ false
