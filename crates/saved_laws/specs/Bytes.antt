-- Entries whose tokens are bytes.
use Rattle.std.specs.Prelude.{◌<◌, List}
use Rattle.std.specs.List.{AllByRecursion}
use Rattle.xs_base.specs.declared.token.Token.TheVariants.{Byte, Ctrl}
use Rattle.xs_base.specs.declared.entry.Entry.{Entry}
use Rattle.xs_base.specs.declared.entry.What.{What}
use Rattle.xs_base.specs.declared.entry.What.TheVariants.{Token}

-- The value of a token is a byte. So it is of each entry that a program holds, by its type.
abbrev pub CarriesByte : What → Type 0
CarriesByte (Token (Byte b)) = b < 256
CarriesByte (Token (Ctrl c)) = c < 256
CarriesByte _ = Unit {0}

abbrev pub CarryBytes : List Entry → Type 0
CarryBytes entries = AllByRecursion (λ (e : Entry). CarriesByte e.what) entries
