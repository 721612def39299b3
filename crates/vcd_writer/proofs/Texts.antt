-- Pieces put at the end of a text, one after the other.
use Rattle.std.proofs.Common.{◌≡◌, ℕ, List, ◌++◌, append_assoc}
use Rattle.std.proofs.lemmas.Grind.{flat_map-append}
use Rattle.wave_model.specs.Waves.{ended, text_of_lines}

pub lines-append : (lines others : List (List ℕ)) → text_of_lines (lines ++ others) ≡ text_of_lines lines ++ text_of_lines others
lines-append lines others = flat_map-append ended lines others

pub begun_more : (text begun more out after : List ℕ) → out ≡ text ++ begun → after ≡ out ++ more → after ≡ text ++ (begun ++ more)
begun_more text begun more out after p q = rw (q, p) (append_assoc text begun more)

-- three of them
pub three : (text a b c x y z : List ℕ) → x ≡ text ++ a → y ≡ x ++ b → z ≡ y ++ c → z ≡ text ++ (a ++ (b ++ c))
three text a b c x y z p q r = rw (r, q, p) (simp append_assoc)
