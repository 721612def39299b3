-- From each place of an image to the next one no symbol stands between.
use Rattle.std.proofs.Common.{◌≡◌, ℕ, ◌+◌, ◌<◌, ◌≤◌, true, false, ◌==◌, List, [], ◌∷◌, length, arith}
use Rattle.std.specs.List.{AllByRecursion}
use Rattle.std.proofs.lemmas.Bool.Decides.{nat_tests}
use Rattle.xs_instructions.specs.Code.{code_start, place_address}
use Rattle.xs_instructions.specs.Image.{ImageRec, IsImage, Symbol, may_follow, is_place, data_start}
use Rattle.source_laws.specs.LabelOrder.{symbols_from, IsNext}
use Rattle.source_laws.proofs.Order.{from_all}

pub each : {A : Type 0} (P Q : A → Type 0) → ((x : A) → P x → Q x) → (xs : List A) → AllByRecursion P xs → AllByRecursion Q xs
each P Q k [] h = tt
each P Q k (x ∷ xs) h = (k x h.0, each P Q k xs h.1)

code_gap : (n m cp p a : ℕ) → is_place n m cp a ≡ true → may_follow (place_address p) a ≡ true → (a == place_address p) ≡ false → may_follow (place_address (p + 1)) a ≡ true
code_gap n m cp p a h f e = grind (arith, nat_tests)

-- from an instruction's place to the next place
pub next_place : (image : ImageRec) (p : ℕ) → IsImage image → IsNext (place_address p) (place_address (p + 1)) image.symbols
next_place image p h = record {
  follows = grind (arith, nat_tests);
  past = grind (arith, nat_tests);
  gap = each _ _ (λ (s : Symbol) k. code_gap (length image.code) (length image.bytes) image.cp_at p s.1 k) image.symbols h.places;
}

end_gap : (n m cp a : ℕ) → data_start ≤ cp → is_place n m cp a ≡ true → may_follow (place_address n) a ≡ true → (a == place_address n) ≡ false → may_follow data_start a ≡ true
end_gap n m cp a c h f e = grind (arith, nat_tests)

-- from the code's end to the data
pub next_data : (image : ImageRec) → IsImage image → IsNext (place_address (length image.code)) data_start image.symbols
next_data image h =
    let c : data_start ≤ image.cp_at = h.cp_in_data in
    record {
      follows = grind (arith, nat_tests);
      past = grind (arith, nat_tests);
      gap = each _ _ (λ (s : Symbol) k. end_gap (length image.code) (length image.bytes) image.cp_at s.1 c k) image.symbols h.places;
    }

byte_gap : (at a : ℕ) → at < code_start → may_follow at a ≡ true → (a == at) ≡ false → may_follow (at + 1) a ≡ true
byte_gap at a s f e = grind (arith, nat_tests)

all_gaps : (at next : ℕ) (symbols : List Symbol) → ((a : ℕ) → may_follow at a ≡ true → (a == at) ≡ false → may_follow next a ≡ true) → AllByRecursion (λ (s : Symbol). may_follow at s.1 ≡ true → (s.1 == at) ≡ false → may_follow next s.1 ≡ true) symbols
all_gaps at next [] k = tt
all_gaps at next (s ∷ symbols) k = (k s.1, all_gaps at next symbols k)

-- from a byte to the next
pub next_byte : (at : ℕ) (symbols : List Symbol) → at + 1 < code_start → IsNext at (at + 1) symbols
next_byte at symbols s = record {
  follows = grind (arith, nat_tests);
  past = grind (arith, nat_tests);
  gap = all_gaps at (at + 1) symbols (λ a f e. byte_gap at a (omega arith) f e);
}

cp_gap : (n m cp a : ℕ) → data_start + m < cp → cp < code_start → is_place n m cp a ≡ true → may_follow (data_start + m) a ≡ true → (a == data_start + m) ≡ false → may_follow cp a ≡ true
cp_gap n m cp a c s h f e = grind (arith, nat_tests)

pub cp_small : (image : ImageRec) → IsImage image → image.cp_at + length image.bytes < code_start
cp_small image h = omega (arith, h.bytes_fit, h.cp_near_end)

-- from the bytes' end to the constants, where it is below them
pub next_constants : (image : ImageRec) → IsImage image → data_start + length image.bytes < image.cp_at → IsNext (data_start + length image.bytes) image.cp_at image.symbols
next_constants image h c =
    let s : image.cp_at < code_start = omega (arith, cp_small image h) in
    record {
      follows = grind (arith, nat_tests);
      past = grind (arith, nat_tests);
      gap = each _ _ (λ (s0 : Symbol) k. cp_gap (length image.code) (length image.bytes) image.cp_at s0.1 c s k) image.symbols h.places;
    }

first_place : (n m cp a : ℕ) → is_place n m cp a ≡ true → data_start ≤ cp → may_follow (place_address 0) a ≡ true
first_place n m cp a h c = grind (arith, nat_tests)

-- all symbols stand at the first place or after it
pub from_first : (image : ImageRec) → IsImage image → symbols_from (place_address 0) image.symbols ≡ image.symbols
from_first image h =
    let c : data_start ≤ image.cp_at = h.cp_in_data in
    from_all (place_address 0) image.symbols (each _ _ (λ (s : Symbol) k. first_place (length image.code) (length image.bytes) image.cp_at s.1 k c) image.symbols h.places)
