-- Numbers as they are written: decimal digits, or 0x and hex digits, or, in sources alone, 0b and binary digits.
use Rattle.std.specs.Prelude.{ℕ, Bool, ◌&&◌, ◌==◌, nat_le, if◌then◌else◌, Option, Some, None, option_and_then, List, ◌∷◌}
use Rattle.std.specs.Char.{is_ascii_digit, is_ascii_hexdigit}
use Rattle.std.specs.Str.Parse.{digits_value}
use Rattle.xs_text.specs.Tokens.{is_run, is_binary_digit}

-- the bytes after `0` and the letter of a base, if they begin so
abbrev pub after_base : ℕ → List ℕ → Option (List ℕ)
after_base letter (b ∷ c ∷ digits) = if (b == 48) && (c == letter) then Some digits else None
after_base letter _ = None

-- the value of one or more digits of a base
abbrev pub value_in : ℕ → (ℕ → Bool) → List ℕ → Option ℕ
value_in base is_digit digits = if is_run is_digit digits then Some (digits_value base digits) else None

abbrev pub or_else : Option ℕ → Option ℕ → Option ℕ
or_else (Some n) other = Some n
or_else None other = other

-- the number that the bytes are as a whole, however great, in system texts
abbrev pub number_of : List ℕ → Option ℕ
number_of bytes =
    or_else (value_in 10 is_ascii_digit bytes) (option_and_then (value_in 16 is_ascii_hexdigit) (after_base 120 bytes))

-- the same in sources
abbrev pub source_number_of : List ℕ → Option ℕ
source_number_of bytes = or_else (number_of bytes) (option_and_then (value_in 2 is_binary_digit) (after_base 98 bytes))

-- a number of at most a limit
abbrev pub at_most : ℕ → Option ℕ → Option ℕ
at_most limit None = None
at_most limit (Some n) = if nat_le n limit then Some n else None
