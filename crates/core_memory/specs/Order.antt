-- The words of a memory, in order, against the words at addresses.
use Rattle.std.specs.Prelude.{ℕ, ◌≡◌, ◌+◌, ◌*◌, ◌<◌, List, [], ◌∷◌, Some, length, drop, slice_index}
use Rattle.xs_base.specs.declared.numbers.TheConstants.{MEMORY_START, MEMORY_BYTES}
use Rattle.xs_model.specs.Memory.{load_word, words_of}

-- the word at 0x00010000 + 4 * k is the memory's word k
abbrev pub WordsInOrder : Type 0
WordsInOrder =
    (bytes : List ℕ) (k : ℕ) → length bytes ≡ MEMORY_BYTES → k < 16384 → load_word bytes (MEMORY_START + 4 * k) ≡ Some (slice_index (words_of bytes) k)

-- the words from word k on are the one at its address, and then those from word k + 1 on
abbrev pub NextWord : Type 0
NextWord =
    (bytes : List ℕ) (k w : ℕ) → length bytes ≡ MEMORY_BYTES → load_word bytes (MEMORY_START + 4 * k) ≡ Some w → words_of (drop (4 * k) bytes) ≡ w ∷ words_of (drop (4 * (k + 1)) bytes)

-- there are 16,384 words
abbrev pub NoWordsLeft : Type 0
NoWordsLeft = (bytes : List ℕ) → length bytes ≡ MEMORY_BYTES → words_of (drop (4 * 16384) bytes) ≡ []
