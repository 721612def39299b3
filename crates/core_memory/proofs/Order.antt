-- The words of a memory against the words at addresses.
use Rattle.std.proofs.Common.{ℕ, suc, zero, ◌≡◌, ◌+◌, ◌-◌, ◌*◌, ◌%◌, ◌<◌, ◌≤◌, true, leb, eqb, List, [], ◌∷◌, Some, length, get_or, drop, refl, ap, sym, ◌∙◌, arith}
use Rattle.std.proofs.lemmas.List.{drop-drop, length-drop, drop_all}
use Rattle.std.proofs.lemmas.Bool.{cond-true, and_from, and_parts, ltb-true, le-leb, lt-ltb, eq-eqb}
use Rattle.std.proofs.lemmas.Option.{cond_some}
use Rattle.xs_base.specs.declared.numbers.TheConstants.{MEMORY_START, MEMORY_BYTES}
use Rattle.xs_model.specs.Memory.{is_word_address, word_here, load_word, words_of}
use Rattle.core_memory.specs.Order.{WordsInOrder, NextWord, NoWordsLeft}

-- the words of four bytes and more
words_of_more : (bytes : List ℕ) → 4 ≤ length bytes → words_of bytes ≡ word_here bytes ∷ words_of (drop 4 bytes)
unfolding words_of
words_of_more [] h = absurd (omega arith)
words_of_more (a ∷ []) h = absurd (omega arith)
words_of_more (a ∷ b ∷ []) h = absurd (omega arith)
words_of_more (a ∷ b ∷ c ∷ []) h = absurd (omega arith)
words_of_more (a ∷ b ∷ c ∷ d ∷ rest) h = refl

-- the words from word k on
words_of-drop : (bytes : List ℕ) (k : ℕ) → 4 * k + 4 ≤ length bytes → words_of (drop (4 * k) bytes) ≡ word_here (drop (4 * k) bytes) ∷ words_of (drop (4 * (k + 1)) bytes)
words_of-drop bytes k h =
    let enough : 4 ≤ length (drop (4 * k) bytes) = omega (arith, length-drop (4 * k) bytes) in
    let next : 4 * k + 4 ≡ 4 * (k + 1) = omega arith in
    words_of_more (drop (4 * k) bytes) enough ∙ ap (λ rest. word_here (drop (4 * k) bytes) ∷ words_of rest) (drop-drop 4 (4 * k) bytes ∙ ap (λ i. drop i bytes) next)

is_address : (k : ℕ) → k < 16384 → is_word_address (MEMORY_START + 4 * k) ≡ true
is_address k h =
    and_from _ _ (and_from _ _ (le-leb MEMORY_START (MEMORY_START + 4 * k) (omega arith)) (lt-ltb (MEMORY_START + 4 * k) (MEMORY_START + MEMORY_BYTES) (omega arith))) (eq-eqb ((MEMORY_START + 4 * k) % 4) 0 (omega arith))

-- the word at the address of word k
load_word-is : (bytes : List ℕ) (k : ℕ) → k < 16384 → load_word bytes (MEMORY_START + 4 * k) ≡ Some (word_here (drop (4 * k) bytes))
load_word-is bytes k h =
    let offset : (MEMORY_START + 4 * k) - MEMORY_START ≡ 4 * k = omega arith in
    cond-true (is_word_address (MEMORY_START + 4 * k)) _ _ (is_address k h) ∙ ap (λ i. Some (word_here (drop i bytes))) offset

pub next_word : NextWord
next_word bytes k w n e =
    let is : (is_word_address (MEMORY_START + 4 * k) ≡ true) × (word_here (drop ((MEMORY_START + 4 * k) - MEMORY_START) bytes) ≡ w) =
    cond_some _ _ _ e
    in
    let inside : MEMORY_START + 4 * k < MEMORY_START + MEMORY_BYTES =
    ltb-true (MEMORY_START + 4 * k) (MEMORY_START + MEMORY_BYTES) (and_parts (leb MEMORY_START (MEMORY_START + 4 * k)) _ (and_parts _ (eqb ((MEMORY_START + 4 * k) % 4) 0) is.0).0).1
    in
    let below : k < 16384 = omega arith in
    let offset : (MEMORY_START + 4 * k) - MEMORY_START ≡ 4 * k = omega arith in
    let word : word_here (drop (4 * k) bytes) ≡ w = ap (λ i. word_here (drop i bytes)) (sym offset) ∙ is.1 in
    words_of-drop bytes k (omega arith) ∙ ap (λ v. v ∷ words_of (drop (4 * (k + 1)) bytes)) word

pub no_words_left : NoWordsLeft
unfolding words_of
no_words_left bytes n = ap words_of (drop_all (4 * 16384) bytes (omega arith))

-- word k of the words
word_number : (k : ℕ) (bytes : List ℕ) → 4 * k + 4 ≤ length bytes → get_or (words_of bytes) k 0 ≡ word_here (drop (4 * k) bytes)
word_number zero bytes h = ap (λ words. get_or words 0 0) (words_of_more bytes (omega arith))
word_number (suc k) bytes h =
    let enough : 4 * k + 4 ≤ length (drop 4 bytes) = omega (arith, length-drop 4 bytes) in
    let next : 4 + 4 * k ≡ 4 * suc k = omega arith in
    ap (λ words. get_or words (suc k) 0) (words_of_more bytes (omega arith)) ∙ word_number k (drop 4 bytes) enough ∙ ap word_here (drop-drop (4 * k) 4 bytes ∙ ap (λ i. drop i bytes) next)

pub words_in_order : WordsInOrder
words_in_order bytes k n h = load_word-is bytes k h ∙ ap Some (sym (word_number k bytes (omega arith)))
