-- The status register: a set of seven bits, as a number.
use Rattle.std.specs.Prelude.{ℕ, ◌≡◌, ◌-◌, ◌%◌, ◌==◌, Bool, not, bit_and, bit_or}
use Rattle.xs_model.specs.declared.status.Status.{Status}
use Rattle.xs_model.specs.declared.status.TheConstants.{STATUS_BITS}

abbrev pub status : ℕ → Status
status bits = record { bits = bits }

abbrev pub no_status : Status
no_status = status 0

-- with these bits too
abbrev pub with_bits : Status → ℕ → Status
with_bits sr bits = status (bit_or sr.bits bits)

-- without these bits
abbrev pub without_bits : Status → ℕ → Status
without_bits sr bits = status (bit_and sr.bits (255 - bits))

-- whether one of these bits is set
abbrev pub has_bits : Status → ℕ → Bool
has_bits sr bits = not (bit_and sr.bits bits == 0)

-- the status bits of a word, which are among its low eight: the register has no others
abbrev pub status_of : ℕ → Status
status_of word = status (bit_and (word % 256) STATUS_BITS)

-- all bits of a status are among the seven
abbrev pub IsKnown : Status → Type 0
IsKnown sr = bit_and sr.bits STATUS_BITS ≡ sr.bits
