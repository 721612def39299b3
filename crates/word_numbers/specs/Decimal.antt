-- Numbers in the words of a command.
use Rattle.std.specs.Prelude.{ℕ, Bool, false, ◌==◌, nat_le, if◌then◌else◌, Option, None, List, ◌∷◌, length}
use Rattle.std.specs.Char.{is_ascii_digit}
use Rattle.xs_text.specs.Numbers.{at_most, value_in}

-- one to ten decimal digits, of a value of at most a limit
abbrev pub decimal_up_to : ℕ → List ℕ → Option ℕ
decimal_up_to limit word = if nat_le (length word) 10 then at_most limit (value_in 10 is_ascii_digit word) else None

-- whether digits begin with a zero that says nothing
abbrev pub has_leading_zero : List ℕ → Bool
has_leading_zero (b ∷ c ∷ rest) = b == 48
has_leading_zero _ = false

-- the same without leading zeros, as numbers are written
abbrev pub plain_decimal_up_to : ℕ → List ℕ → Option ℕ
plain_decimal_up_to limit word = if has_leading_zero word then None else decimal_up_to limit word
