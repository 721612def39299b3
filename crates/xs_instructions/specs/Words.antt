-- The names of registers, and the words and marks that a row itself may name.
use Rattle.std.specs.Prelude.{ℕ, Bool, true, false, ◌+◌, ◌&&◌, ◌==◌, if◌then◌else◌, Option, Some, None, List, [], ◌∷◌, codes, get_or}

-- whether two names are the same, byte for byte
abbrev pub same_name : List ℕ → List ℕ → Bool
same_name [] [] = true
same_name [] (d ∷ ds) = false
same_name (c ∷ cs) [] = false
same_name (c ∷ cs) (d ∷ ds) = (c == d) && same_name cs ds

-- the place of a text in a list whose first has this place
abbrev pub place_from : ℕ → List (List ℕ) → List ℕ → Option ℕ
place_from k [] text = None
place_from k (t ∷ texts) text = if same_name t text then Some k else place_from (k + 1) texts text

-- the registers that an instruction can name, by their numbers
abbrev pub register_names : List (List ℕ)
register_names =
    codes "r0" ∷ codes "r1" ∷ codes "r2" ∷ codes "r3" ∷ codes "r4" ∷ codes "r5" ∷ codes "r6" ∷ codes "r7" ∷ codes "r8"
    ∷ codes "r9" ∷ codes "r10" ∷ codes "r11" ∷ codes "cp" ∷ codes "dp" ∷ codes "sp" ∷ codes "lr" ∷ []

-- the number of a register by its name
unfoldable pub register_number : List ℕ → Option ℕ
register_number name = place_from 0 register_names name

-- the words and marks beside operands, by their numbers
abbrev pub fixed_words : List (List ℕ)
fixed_words =
    codes "res" ∷ codes "t" ∷ codes "pc" ∷ codes "kep" ∷ codes "ksp" ∷ codes "ed" ∷ codes "et" ∷ codes "id" ∷ codes "spc"
    ∷ codes "ssr" ∷ codes "sed" ∷ codes "," ∷ codes ":" ∷ codes "[" ∷ codes "]" ∷ codes "-" ∷ []

-- the number of such a word or mark
unfoldable pub fixed : List ℕ → Option ℕ
fixed text = place_from 0 fixed_words text

abbrev pub fixed_text : ℕ → List ℕ
fixed_text n = get_or fixed_words n []
