-- A line as it stands, with a mark under one of its places, and what is accepted there.
use Rattle.std.specs.Prelude.{ℕ, ◌==◌, if◌then◌else◌, List, [], ◌∷◌, ◌++◌, take, map, flat_map, codes, decimal}
use Rattle.xs_text.specs.Bytes.{is_allowed}
use Rattle.explain_model.specs.declared.Want.{Want}
use Rattle.explain_model.specs.Wants.{want_text}

-- a byte that a text may not hold is written as `?`
abbrev pub shown_byte : ℕ → ℕ
shown_byte b = if is_allowed b then b else 63

-- what stands under a byte, so that the mark is in its column: a tab under a tab, and else a blank
abbrev pub under_byte : ℕ → ℕ
under_byte b = if b == 9 then 9 else 32

-- ` | ` and the line, behind its number
abbrev pub line_shown : ℕ → List ℕ → List ℕ
line_shown number l = decimal number ++ (codes " | " ++ (map shown_byte l ++ codes "\n"))

-- the mark in the line below
abbrev pub mark_shown : ℕ → List ℕ → ℕ → List ℕ
mark_shown number l at = map under_byte (decimal number) ++ (codes " | " ++ (map under_byte (take at l) ++ codes "^\n"))

abbrev pub quote_text : ℕ → List ℕ → ℕ → List ℕ
quote_text number l at = line_shown number l ++ mark_shown number l at

abbrev pub accepted_text : List Want → List ℕ
accepted_text [] = []
accepted_text (w ∷ wants) = codes "accepted here: " ++ (want_text w ++ (flat_map (λ more. codes "; " ++ want_text more) wants ++ codes "\n"))
