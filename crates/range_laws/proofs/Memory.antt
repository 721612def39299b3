-- Loads give words, and stores leave bytes.
use Rattle.std.proofs.Common.{◌≡◌, ℕ, ◌+◌, ◌-◌, ◌/◌, ◌%◌, ◌<◌, ◌≤◌, ◌==◌, ◌&&◌, Bool, true, false, nat_lt, nat_le, if◌then◌else◌, Option, Some, None, List, [], ◌∷◌, ◌++◌, length, take, drop, replicate, ◌∙◌, arith}
use Rattle.std.specs.Prelude.{IfSome}
use Rattle.std.specs.List.{AllByRecursion}
use Rattle.std.proofs.lemmas.Bool.{cond_both, and_parts, ltb-true, leb-true, eqb-true}
use Rattle.std.proofs.lemmas.List.{length-append, length-take, length-drop, length-replicate}
use Rattle.std.proofs.lemmas.Nat.{mod_below}
use Rattle.xs_base.specs.declared.numbers.TheConstants.{MEMORY_START, MEMORY_BYTES}
use Rattle.xs_model.specs.Memory.{is_address_of, with_bytes, word_here, bytes_of_word, load_word, store_word, half_here, bytes_of_half, load_half, store_half, byte_here, low_byte, load_byte, store_byte, first_memory}
use Rattle.range_laws.proofs.Lists.{all_joined, all_dropped, all_taken, all_many}
use Rattle.range_laws.proofs.Words.{IsWord, sext_word}
use Rattle.range_laws.proofs.Core.{IsByte, MemoryFits}

-- ---- Loads

word_is : (bytes : List ℕ) → AllByRecursion IsByte bytes → IsWord (word_here bytes)
word_is [] all = omega arith
word_is (a ∷ []) all = omega arith
word_is (a ∷ b ∷ []) all = omega arith
word_is (a ∷ b ∷ c ∷ []) all = omega arith
word_is (a ∷ b ∷ c ∷ d ∷ rest) all =
    let fa = all.0 in
    let fb = all.1.0 in
    let fc = all.1.1.0 in
    let fd = all.1.1.1.0 in
    omega (arith, fa, fb, fc, fd)

half_is : (bytes : List ℕ) → AllByRecursion IsByte bytes → IsWord (half_here bytes)
half_is [] all = omega arith
half_is (a ∷ []) all = omega arith
half_is (a ∷ b ∷ rest) all =
    let fa = all.0 in
    let fb = all.1.0 in
    omega (arith, fa, fb)

byte_is : (bytes : List ℕ) → AllByRecursion IsByte bytes → IsWord (byte_here bytes)
byte_is [] all = omega arith
byte_is (a ∷ rest) all = let fa = all.0 in omega (arith, fa)

abbrev pub FoundWord : Option ℕ → Type 0
FoundWord found = IfSome found IsWord

found_if : (holds : Bool) (word : ℕ) → IsWord word → FoundWord (if holds then Some word else None)
found_if true word is = is
found_if false word is = tt

pub loaded_word : (memory : List ℕ) (at : ℕ) → MemoryFits memory → FoundWord (load_word memory at)
loaded_word memory at h = found_if (is_address_of 4 at) _ (word_is _ (all_dropped IsByte (at - MEMORY_START) memory h.bytes))

pub loaded_half : (memory : List ℕ) (at : ℕ) → MemoryFits memory → FoundWord (load_half memory at)
loaded_half memory at h = found_if (is_address_of 2 at) _ (sext_word _ 16 (half_is _ (all_dropped IsByte (at - MEMORY_START) memory h.bytes)))

pub loaded_byte : (memory : List ℕ) (at : ℕ) → MemoryFits memory → FoundWord (load_byte memory at)
loaded_byte memory at h = found_if (is_address_of 1 at) _ (byte_is _ (all_dropped IsByte (at - MEMORY_START) memory h.bytes))

-- ---- Stores

-- where some bytes are put that end within it, a list is as long as before
put_length : (n : ℕ) (xs new : List ℕ) → n + length new ≤ length xs → length (take n xs ++ (new ++ drop (n + length new) xs)) ≡ length xs
put_length n xs new fits =
    let a = length-append (take n xs) (new ++ drop (n + length new) xs) in
    let b = length-append new (drop (n + length new) xs) in
    let c = length-take n xs in
    let d = length-drop (n + length new) xs in
    omega (arith, fits, a, b, c, d)

stored : (memory bytes : List ℕ) (at : ℕ) → at - MEMORY_START + length bytes ≤ 65536 → AllByRecursion IsByte bytes → MemoryFits memory → MemoryFits (with_bytes memory at bytes)
stored memory bytes at fits new h =
    let n = at - MEMORY_START in
    let size = h.size in
    record {
      bytes = all_joined IsByte (take n memory) _ (all_taken IsByte n memory h.bytes) (all_joined IsByte bytes _ new (all_dropped IsByte (n + length bytes) memory h.bytes));
      size = put_length n memory bytes (omega (arith, fits, size)) ∙ size;
    }

-- an access at an address ends within the memory
ends_by : (size at : ℕ) → is_address_of size at ≡ true → (at < 131072) × (at % size ≡ 0) × (65536 ≤ at)
ends_by size at is =
    let parts = and_parts (nat_le MEMORY_START at && nat_lt at (MEMORY_START + MEMORY_BYTES)) (at % size == 0) is in
    let bounds = and_parts (nat_le MEMORY_START at) (nat_lt at (MEMORY_START + MEMORY_BYTES)) parts.0 in
    (ltb-true at (MEMORY_START + MEMORY_BYTES) bounds.1, eqb-true (at % size) 0 parts.1, leb-true MEMORY_START at bounds.0)

abbrev pub LeftMemory : Option (List ℕ) → Type 0
LeftMemory left = IfSome left MemoryFits

low_is : (n : ℕ) → IsByte (n % 256)
low_is n = mod_below n 256 (omega arith)

pub stored_word : (memory : List ℕ) (at w : ℕ) → MemoryFits memory → LeftMemory (store_word memory at w)
stored_word memory at w h =
    cond_both (is_address_of 4 at) (Some (with_bytes memory at (bytes_of_word w))) None LeftMemory
    (λ is.
    let e = ends_by 4 at is in
    let low = e.0 in
    let whole = e.1 in
    stored memory (bytes_of_word w) at (omega (arith, low, whole)) (low_is w, (low_is (w / 256), (low_is (w / 65536), (low_is (w / 16777216), tt)))) h)
    (λ no. tt)

pub stored_half : (memory : List ℕ) (at w : ℕ) → MemoryFits memory → LeftMemory (store_half memory at w)
stored_half memory at w h =
    cond_both (is_address_of 2 at) (Some (with_bytes memory at (bytes_of_half w))) None LeftMemory
    (λ is.
    let e = ends_by 2 at is in
    let low = e.0 in
    let whole = e.1 in
    stored memory (bytes_of_half w) at (omega (arith, low, whole)) (low_is w, (low_is (w / 256), tt)) h)
    (λ no. tt)

pub stored_byte : (memory : List ℕ) (at w : ℕ) → MemoryFits memory → LeftMemory (store_byte memory at w)
stored_byte memory at w h =
    cond_both (is_address_of 1 at) (Some (with_bytes memory at (low_byte w))) None LeftMemory
    (λ is. let e = ends_by 1 at is in let low = e.0 in stored memory (low_byte w) at (omega (arith, low)) (low_is w, tt) h)
    (λ no. tt)

-- ---- As a node starts

pub first_memory_fits : (bytes : List ℕ) → length bytes ≤ 65536 → AllByRecursion IsByte bytes → MemoryFits (first_memory bytes)
first_memory_fits bytes few all = record {
  bytes = all_joined IsByte bytes (replicate (65536 - length bytes) 0) all (all_many IsByte (65536 - length bytes) 0 (omega arith));
  size = let zeros = length-replicate {A = ℕ} (65536 - length bytes) 0 in let whole = length-append bytes (replicate (65536 - length bytes) 0) in omega (arith, few, zeros, whole);
}
