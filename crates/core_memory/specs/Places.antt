-- Where an access stands in the list of the memory's bytes.
use Rattle.std.specs.Prelude.{ℕ, ◌≡◌, ◌+◌, ◌%◌, ◌<◌, true, List, ◌++◌, take, drop, length}
use Rattle.xs_base.specs.declared.numbers.TheConstants.{MEMORY_START, MEMORY_BYTES}
use Rattle.xs_model.specs.Memory.{is_address_of}

-- the address of an access of so many bytes, which begins at byte number `place` of the memory
pub record IsPlaceOf (size at place : ℕ) : Type 0 where
  pub is_address : is_address_of size at ≡ true
  pub address : at ≡ MEMORY_START + place
  pub multiple : at % size ≡ 0
  pub within : place < MEMORY_BYTES

-- the memory with these bytes from a place on
abbrev pub with_bytes_at : List ℕ → ℕ → List ℕ → List ℕ
with_bytes_at memory place bytes = take place memory ++ (bytes ++ drop (place + length bytes) memory)
