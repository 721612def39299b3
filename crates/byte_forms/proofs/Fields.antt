-- The laws of the fields.
use Rattle.std.proofs.Common.{◌≡◌, ℕ, ◌<◌, ◌≤◌, ◌^◌, false, ltb, List, [], ◌∷◌, ◌++◌, length, take, drop, Ok, Err, refl, sym, subst, arith, inl, inr}
use Rattle.std.specs.Int.{Width, w16, w32, w64, byte_len, from_le_bytes, to_le_bytes}
use Rattle.std.proofs.lemmas.Bool.{cases_lt, ltb-false, le-ltb}
use Rattle.std.proofs.lemmas.List.{take_at, drop_at, take-append-drop, length-append, length-take, get_or-take, get_or_past}
use Rattle.std.proofs.lemmas.Nat.{le_bytes_2, le_bytes_4, le_bytes_8, from_le_bytes-to_le_bytes_2, from_le_bytes-to_le_bytes_4, from_le_bytes-to_le_bytes_8}
use Rattle.byte_forms.specs.Forms.{AreBytes, read_byte, byte, read_bytes, bytes, read_number, number, half, word, long}
use Rattle.byte_forms.specs.Laws.{Lawful}
use Rattle.byte_forms.proofs.Steps.{ok_is, bind_ok, bind_err, long_ok, long_err}

-- ---- a byte

byte_found : (bytes : List ℕ) (b : ℕ) (rest : List ℕ) → AreBytes bytes → read_byte bytes ≡ Ok (b, rest) → (bytes ≡ b ∷ rest) × (b < 256)
unfolding read_byte
byte_found [] b rest fit e = absurd cc
byte_found (c ∷ after) b rest fit e = subst (λ (x : ℕ × List ℕ). (c ∷ after ≡ x.0 ∷ x.1) × (x.0 < 256)) (ok_is (c, after) (b, rest) e) (refl, fit 0)

byte_again : (b : ℕ) (rest : List ℕ) → read_byte (b ∷ rest) ≡ Ok (b, rest)
unfolding read_byte
byte_again b rest = refl

byte_within : (bytes : List ℕ) (left : ℕ) → read_byte bytes ≡ Err left → left ≤ length bytes
unfolding read_byte
byte_within [] left e = let h : 0 ≡ left = cc in omega arith
byte_within (c ∷ after) left e = absurd cc

pub byte-lawful : Lawful byte
byte-lawful = record { found = byte_found; again = λ b rest h. byte_again b rest; within = λ bytes left fit e. byte_within bytes left e }

-- ---- so many bytes

take_fits : (n : ℕ) (bytes : List ℕ) → AreBytes bytes → AreBytes (take n bytes)
take_fits n bytes fit i =
    elim (cases_lt i n) [
      | inl lt ↦ rw (get_or-take n bytes i 0 lt) (fit i)
      | inr le ↦ rw (get_or_past (take n bytes) i 0 (omega (arith, length-take n bytes))) (omega arith)
    ]

bytes_found : (n : ℕ) (all xs rest : List ℕ) → AreBytes all → read_bytes n all ≡ Ok (xs, rest) → (all ≡ xs ++ rest) × ((length xs ≡ n) × AreBytes xs)
unfolding read_bytes
bytes_found n all xs rest fit e =
    let g = long_ok (ltb (length all) n) (length all) (take n all, drop n all) (xs, rest) e in
    let long : n ≤ length all = ltb-false _ _ g.0 in
    subst (λ (x : List ℕ × List ℕ). (all ≡ x.0 ++ x.1) × ((length x.0 ≡ n) × AreBytes x.0)) g.1 (sym (take-append-drop n all), (omega (arith, length-take n all), take_fits n all fit))

bytes_again : (n : ℕ) (xs rest : List ℕ) → length xs ≡ n → read_bytes n (xs ++ rest) ≡ Ok (xs, rest)
unfolding read_bytes
bytes_again n xs rest len =
    let long : ltb (length (xs ++ rest)) n ≡ false = le-ltb _ _ (omega (arith, length-append xs rest)) in
    rw (long, take_at xs rest n len, drop_at xs rest n len) refl

bytes_within : (n : ℕ) (all : List ℕ) (left : ℕ) → read_bytes n all ≡ Err left → left ≤ length all
unfolding read_bytes
bytes_within n all left e = let h = long_err (ltb (length all) n) (length all) left (take n all, drop n all) e in omega arith

pub bytes-lawful : (n : ℕ) → Lawful (bytes n)
bytes-lawful n = record { found = λ all xs rest. bytes_found n all xs rest; again = λ xs rest h. bytes_again n xs rest h.0; within = λ all left fit e. bytes_within n all left e }

-- ---- numbers

record IsWide (w : Width) : Type 0 where
  len : (n : ℕ) → length (to_le_bytes w n) ≡ byte_len w
  back : (xs : List ℕ) → length xs ≡ byte_len w → AreBytes xs → to_le_bytes w (from_le_bytes w xs) ≡ xs
  again : (n : ℕ) → n < 256 ^ byte_len w → from_le_bytes w (to_le_bytes w n) ≡ n
  limit : (xs : List ℕ) → AreBytes xs → from_le_bytes w xs < 256 ^ byte_len w

wide16 : IsWide w16
wide16 = record {
  len = λ n. refl;
  back = λ xs len fit. le_bytes_2 xs _ len fit refl;
  again = λ n lt. from_le_bytes-to_le_bytes_2 n lt;
  limit = λ xs fit. omega (arith, fit 0, fit 1);
}

wide32 : IsWide w32
wide32 = record {
  len = λ n. refl;
  back = λ xs len fit. le_bytes_4 xs _ len fit refl;
  again = λ n lt. from_le_bytes-to_le_bytes_4 n lt;
  limit = λ xs fit. omega (arith, fit 0, fit 1, fit 2, fit 3);
}

wide64 : IsWide w64
wide64 = record {
  len = λ n. refl;
  back = λ xs len fit. le_bytes_8 xs _ len fit refl;
  again = λ n lt. from_le_bytes-to_le_bytes_8 n lt;
  limit = λ xs fit. omega (arith, fit 0, fit 1, fit 2, fit 3, fit 4, fit 5, fit 6, fit 7);
}

number_found : (w : Width) → IsWide w → (all : List ℕ) (n : ℕ) (rest : List ℕ) → AreBytes all → read_number w all ≡ Ok (n, rest) → (all ≡ to_le_bytes w n ++ rest) × (n < 256 ^ byte_len w)
unfolding read_number
number_found w wide all n rest fit e =
    let b = bind_ok (read_bytes (byte_len w) all) (λ x. Ok (from_le_bytes w x.0, x.1)) (n, rest) e in
    let t = bytes_found (byte_len w) all b.0.0 b.0.1 fit b.1 in
    let spelled : all ≡ to_le_bytes w (from_le_bytes w b.0.0) ++ b.0.1 = rw (wide.back b.0.0 t.1.0 t.1.1) t.0 in
    subst (λ (x : ℕ × List ℕ). (all ≡ to_le_bytes w x.0 ++ x.1) × (x.0 < 256 ^ byte_len w)) (ok_is (from_le_bytes w b.0.0, b.0.1) (n, rest) b.2) (spelled, wide.limit b.0.0 t.1.1)

number_again : (w : Width) → IsWide w → (n : ℕ) (rest : List ℕ) → n < 256 ^ byte_len w → read_number w (to_le_bytes w n ++ rest) ≡ Ok (n, rest)
unfolding read_number
number_again w wide n rest lt = rw (bytes_again (byte_len w) (to_le_bytes w n) rest (wide.len n), wide.again n lt) refl

number_within : (w : Width) (all : List ℕ) (left : ℕ) → read_number w all ≡ Err left → left ≤ length all
unfolding read_number
number_within w all left e =
    elim (bind_err (read_bytes (byte_len w) all) (λ x. Ok (from_le_bytes w x.0, x.1)) left e) [
      | inl h ↦ bytes_within (byte_len w) all left h
      | inr h ↦ let k = h.2 in absurd cc
    ]

number-lawful : (w : Width) → IsWide w → Lawful (number w)
number-lawful w wide = record { found = λ all n rest. number_found w wide all n rest; again = λ n rest. number_again w wide n rest; within = λ all left fit e. number_within w all left e }

pub half-lawful : Lawful half
half-lawful = number-lawful w16 wide16

pub word-lawful : Lawful word
word-lawful = number-lawful w32 wide32

pub long-lawful : Lawful long
long-lawful = number-lawful w64 wide64
