-- Memory: 65,536 bytes from 0x00010000 on, little-endian. It is a list of bytes.
use Rattle.std.specs.Prelude.{ℕ, ◌+◌, ◌-◌, ◌*◌, ◌/◌, ◌%◌, Bool, ◌&&◌, ◌==◌, nat_le, nat_lt, if◌then◌else◌, Option, Some, None, List, [], ◌∷◌, ◌++◌, take, drop, replicate, length}
use Rattle.xs_base.specs.declared.numbers.TheConstants.{MEMORY_START, MEMORY_BYTES}
use Rattle.xs_base.specs.Words.{sext}

-- an address of an access of so many bytes: inside the memory, and a multiple of its size
abbrev pub is_address_of : ℕ → ℕ → Bool
is_address_of size at = nat_le MEMORY_START at && nat_lt at (MEMORY_START + MEMORY_BYTES) && (at % size == 0)

abbrev pub is_word_address : ℕ → Bool
is_word_address at = is_address_of 4 at

abbrev pub is_half_address : ℕ → Bool
is_half_address at = is_address_of 2 at

abbrev pub is_byte_address : ℕ → Bool
is_byte_address at = is_address_of 1 at

-- the bytes from an address on
abbrev pub bytes_from : List ℕ → ℕ → List ℕ
bytes_from memory at = drop (at - MEMORY_START) memory

-- the memory with these bytes at an address
abbrev pub with_bytes : List ℕ → ℕ → List ℕ → List ℕ
with_bytes memory at bytes = take (at - MEMORY_START) memory ++ (bytes ++ drop (at - MEMORY_START + length bytes) memory)

-- ---- Words of 32 bits

-- the word that the first four bytes make, the least significant first
abbrev pub word_here : List ℕ → ℕ
word_here (a ∷ b ∷ c ∷ d ∷ rest) = a + 256 * (b + 256 * (c + 256 * d))
word_here _ = 0

-- the four bytes of a word
abbrev pub bytes_of_word : ℕ → List ℕ
bytes_of_word w = (w % 256) ∷ (w / 256 % 256) ∷ (w / 65536 % 256) ∷ (w / 16777216 % 256) ∷ []

-- the word at an address, where it is one of a word
abbrev pub load_word : List ℕ → ℕ → Option ℕ
load_word memory at = if is_word_address at then Some (word_here (bytes_from memory at)) else None

-- the memory with a word stored at an address, where it is one of a word
abbrev pub store_word : List ℕ → ℕ → ℕ → Option (List ℕ)
store_word memory at w = if is_word_address at then Some (with_bytes memory at (bytes_of_word w)) else None

-- ---- Halves of 16 bits, and bytes

-- the half that the first two bytes make
abbrev pub half_here : List ℕ → ℕ
half_here (a ∷ b ∷ rest) = a + 256 * b
half_here _ = 0

-- the two bytes of the low half of a word
abbrev pub bytes_of_half : ℕ → List ℕ
bytes_of_half w = (w % 256) ∷ (w / 256 % 256) ∷ []

-- the half at an address, signed, where it is one of a half
abbrev pub load_half : List ℕ → ℕ → Option ℕ
load_half memory at = if is_half_address at then Some (sext (half_here (bytes_from memory at)) 16) else None

abbrev pub store_half : List ℕ → ℕ → ℕ → Option (List ℕ)
store_half memory at w = if is_half_address at then Some (with_bytes memory at (bytes_of_half w)) else None

abbrev pub byte_here : List ℕ → ℕ
byte_here (a ∷ rest) = a
byte_here _ = 0

-- the low byte of a word, as a list
abbrev pub low_byte : ℕ → List ℕ
low_byte w = (w % 256) ∷ []

-- the byte at an address, unsigned, where it is one of the memory
abbrev pub load_byte : List ℕ → ℕ → Option ℕ
load_byte memory at = if is_byte_address at then Some (byte_here (bytes_from memory at)) else None

abbrev pub store_byte : List ℕ → ℕ → ℕ → Option (List ℕ)
store_byte memory at w = if is_byte_address at then Some (with_bytes memory at (low_byte w)) else None

-- ---- The whole memory

-- the words of the memory, in order
unfoldable pub words_of : List ℕ → List ℕ
words_of (a ∷ b ∷ c ∷ d ∷ rest) = word_here (a ∷ b ∷ c ∷ d ∷ []) ∷ words_of rest
words_of _ = []

-- the memory as a node starts: the image's bytes, and zeros after them
abbrev pub first_memory : List ℕ → List ℕ
first_memory bytes = bytes ++ replicate (MEMORY_BYTES - length bytes) 0
