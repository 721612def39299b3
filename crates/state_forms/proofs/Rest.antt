-- The laws of a node's last division, the levels of its pins and its memory.
use Rattle.std.proofs.Common.{◌≡◌, ℕ, suc, ◌+◌, ◌-◌, ◌<◌, ◌*◌, ◌%◌, ◌^◌, Bool, true, false, cond, ltb, List, [], ◌∷◌, ◌++◌, length, get_or, Option, take, drop}
use Rattle.std.proofs.Common.{replicate, Ok, refl, sym, subst, arith}
use Rattle.std.proofs.lemmas.Bool.{ltb-true, ltb-false, lt-ltb}
use Rattle.std.proofs.lemmas.List.{append-nil, length-take-le, length_push}
use Rattle.xs_base.specs.Ids.{port_width}
use Rattle.std.specs.Prelude.{IfSome}
use Rattle.xs_base.specs.declared.numbers.TheConstants.{MEMORY_BYTES}
use Rattle.xs_model.specs.Outside.{LevelsFitFrom, LevelsFit}
use Rattle.byte_forms.specs.Forms.{AreBytes, HoldInChain, word, read_bytes}
use Rattle.byte_forms.specs.Laws.{Lawful}
use Rattle.byte_forms.proofs.Steps.{long_ok}
use Rattle.byte_forms.proofs.Fields.{bytes-lawful, word-lawful}
use Rattle.byte_forms.proofs.Parts.{below-lawful, option_below-lawful}
use Rattle.byte_forms.proofs.Lists.{chain-lawful}
use Rattle.state_forms.proofs.Holding.{option_below_holds, option_below_of}
use Rattle.state_forms.specs.Rest.{division, level_after, levels, memory}

pub division-lawful : (slot : ℕ) → Lawful (division slot)
division-lawful slot = option_below-lawful slot word-lawful

pub levels-lawful : Lawful levels
unfolding levels
levels-lawful = chain-lawful (λ before. below-lawful (2 ^ port_width (length before)) word-lawful) 29

pub memory-lawful : Lawful memory
unfolding memory
memory-lawful = bytes-lawful 65536

-- ---- What the code says

-- the limit of a level fits 64 bits
fits : (a b c d : Bool) → let width : ℕ = cond a 1 (cond b 4 (cond c 8 (cond d 16 32))) in 1 * 2 ^ width % 18446744073709551616 ≡ 2 ^ width
fits true b c d = refl
fits false true c d = refl
fits false false true d = refl
fits false false false true = refl
fits false false false false = refl

pub width_fits : (port : ℕ) → 1 * 2 ^ port_width port % 18446744073709551616 ≡ 2 ^ port_width port
width_fits port = fits (ltb port 16) (ltb port 22) (ltb port 26) (ltb port 28)

-- what was read as so many bytes has so many
pub length_read : (n : ℕ) (all xs rest : List ℕ) → read_bytes n all ≡ Ok (xs, rest) → length xs ≡ n
unfolding read_bytes
length_read n all xs rest e =
    let g = long_ok (ltb (length all) n) (length all) (take n all, drop n all) (xs, rest) e in
    let enough = ltb-false (length all) n g.0 in
    subst (λ (x : List ℕ × List ℕ). length x.0 ≡ n) g.1 (length-take-le n all enough)

-- a memory has no room after so many bytes
pub fills : (bytes : List ℕ) → length bytes ≡ 65536 → bytes ++ replicate (65536 - length bytes) 0 ≡ bytes
fills bytes len =
    let none : 65536 - length bytes ≡ 0 = omega arith in
    rw none (append-nil bytes)

-- ---- Which have the forms

pub division_holds : (slot : ℕ) (last : Option ℕ) → (division slot).Holds last → IfSome last (λ s. s < slot)
division_holds slot last h = option_below_holds word slot last h

pub division_of : (slot : ℕ) (last : Option ℕ) → IfSome last (λ s. s < 4294967296) → IfSome last (λ s. s < slot) → (division slot).Holds last
division_of slot last fits h = option_below_of word slot (omega arith) last fits h

levels_in : (before xs : List ℕ) → HoldInChain level_after before xs → LevelsFitFrom (length before) xs
unfolding HoldInChain
levels_in before [] h = tt
levels_in before (x ∷ xs) h =
    let next : length (before ++ x ∷ []) ≡ length before + 1 = length_push before x in
    (ltb-true x (2 ^ port_width (length before)) h.0.1, subst (λ (n : ℕ). LevelsFitFrom n xs) next (levels_in (before ++ x ∷ []) xs h.1))

levels_from : (before xs : List ℕ) → ((i : ℕ) → get_or xs i 0 < 4294967296) → LevelsFitFrom (length before) xs → HoldInChain level_after before xs
unfolding HoldInChain
levels_from before [] fits h = tt
levels_from before (x ∷ xs) fits h =
    let next : length (before ++ x ∷ []) ≡ length before + 1 = length_push before x in
    ((fits 0, lt-ltb x (2 ^ port_width (length before)) h.0), levels_from (before ++ x ∷ []) xs (λ i. fits (suc i)) (subst (λ (n : ℕ). LevelsFitFrom n xs) (sym next) h.1))

pub levels_hold : (xs : List ℕ) → levels.Holds xs → (length xs ≡ 29) × LevelsFit xs
unfolding levels
levels_hold xs h = (h.0, levels_in [] xs h.1)

pub levels_of : (xs : List ℕ) → length xs ≡ 29 → ((i : ℕ) → get_or xs i 0 < 4294967296) → LevelsFit xs → levels.Holds xs
unfolding levels
levels_of xs len fits h = (len, levels_from [] xs fits h)

pub memory_holds : (bytes : List ℕ) → memory.Holds bytes → (length bytes ≡ MEMORY_BYTES) × AreBytes bytes
unfolding memory
memory_holds bytes h = h

pub memory_of : (bytes : List ℕ) → length bytes ≡ MEMORY_BYTES → AreBytes bytes → memory.Holds bytes
unfolding memory
memory_of bytes len fits = (len, fits)
