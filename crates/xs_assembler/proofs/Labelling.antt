-- The addresses of an image fit a word.
use Rattle.std.proofs.Common.{◌≡◌, ℕ, ◌+◌, ◌%◌, ◌<◌, ◌≤◌, ◌^◌, Bool, true, false, ◌&&◌, ◌||◌, ◌==◌, if◌then◌else◌, List, [], ◌∷◌, length, refl, arith, IsTrue, nat_le}
use Rattle.std.specs.List.{AllByRecursion}
use Rattle.std.proofs.lemmas.Bool.{and_parts, leb-true, leb-false}
use Rattle.xs_instructions.specs.Code.{code_start, place_address}
use Rattle.xs_instructions.specs.Image.{Symbol, ImageRec, IsImage, is_place, data_start}

-- addresses fit a word
place_small : (c b cp at : ℕ) (t : Bool) → c ≤ 16384 → nat_le code_start at ≡ t → IsTrue (if t then nat_le at (place_address c) && (at % 4 == 0) else ((at == cp) || (nat_le data_start at && nat_le at (data_start + b)))) → at < 2 ^ 32
place_small c b cp at true h e k = omega (arith, leb-true at (place_address c) (and_parts (nat_le at (place_address c)) (at % 4 == 0) k).0, h)
place_small c b cp at false h e k = omega (arith, leb-false code_start at e)

all_small : (c b cp : ℕ) (symbols : List Symbol) → c ≤ 16384 → AllByRecursion (λ (s : Symbol). IsTrue (is_place c b cp s.1)) symbols → AllByRecursion (λ (s : Symbol). s.1 < 2 ^ 32) symbols
all_small c b cp [] h k = tt
all_small c b cp (s ∷ symbols) h k = (place_small c b cp s.1 (nat_le code_start s.1) h refl k.0, all_small c b cp symbols h k.1)

pub addresses_small : (image : ImageRec) → IsImage image → AllByRecursion (λ (s : Symbol). s.1 < 2 ^ 32) image.symbols
addresses_small image h = all_small (length image.code) (length image.bytes) image.cp_at image.symbols h.code_fits h.places

pub cp_small : (image : ImageRec) → IsImage image → image.cp_at < 2 ^ 32
cp_small image h = omega (arith, h.cp_near_end, h.bytes_fit)
