-- The classes of bytes that lines and tokens are made of.
use Rattle.std.specs.Prelude.{ℕ, Bool, false, ◌||◌, ◌==◌, List, [], ◌∷◌}
use Rattle.std.specs.List.{list_all}
use Rattle.std.specs.Int.{is_in_range}
use Rattle.std.specs.Char.{is_ascii_alphabetic, is_ascii_alphanumeric}

-- A text may hold tab and the bytes from space to `~`, in comments too.
abbrev pub is_allowed : ℕ → Bool
is_allowed b = (b == 9) || is_in_range 32 126 b

abbrev pub all_allowed : List ℕ → Bool
all_allowed bytes = list_all is_allowed bytes

-- tab and space part tokens
abbrev pub is_blank : ℕ → Bool
is_blank b = (b == 9) || (b == 32)

abbrev pub all_blank : List ℕ → Bool
all_blank bytes = list_all is_blank bytes

-- a letter, `.` or `_`
abbrev pub is_name_start : ℕ → Bool
is_name_start b = is_ascii_alphabetic b || ((b == 46) || (b == 95))

-- a letter, a digit, `.`, `_` or `$`
abbrev pub is_name_byte : ℕ → Bool
is_name_byte b = is_ascii_alphanumeric b || ((b == 46) || ((b == 95) || (b == 36)))

-- whether the first byte is there, and is c
abbrev pub begins_with : ℕ → List ℕ → Bool
begins_with c [] = false
begins_with c (b ∷ rest) = b == c
