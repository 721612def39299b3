-- What is written of warnings.
use Rattle.std.specs.Prelude.{ℕ, ◌-◌, ◌/◌, ◌%◌, Bool, false, ◌==◌, nat_lt, if◌then◌else◌, Option, Some, None, List, [], ◌∷◌, ◌++◌, length, take, codes, decimal}
use Rattle.explain_model.specs.Meant.{hex_digit}
use Rattle.explain_model.specs.Quote.{line_shown}
use Rattle.warning_model.specs.declared.TheConstants.{MOST_WARNINGS}
use Rattle.warning_model.specs.Warning.{InSource, Site, Doubt, NoDifference, NoWay, CodeEnds, NothingBehind, LabelUnnamed, RegisterUnnamed, NoSuchId, Warning}

-- a number of 16 bits as four hex digits
unfoldable pub four_digits : ℕ → List ℕ
four_digits n = hex_digit (n / 4096 % 16) ∷ hex_digit (n / 256 % 16) ∷ hex_digit (n / 16 % 16) ∷ hex_digit (n % 16) ∷ []

abbrev pub id_text : ℕ → List ℕ
id_text id = codes "0x" ++ four_digits id

abbrev pub value_text : ℕ → List ℕ
value_text value = codes "0x" ++ (four_digits (value / 65536) ++ four_digits (value % 65536))

-- the line that a warning is of, by its source, or else by its number in the whole text
abbrev pub place_text : Option InSource → ℕ → List ℕ
place_text None number = codes "system line " ++ decimal number
place_text (Some place) number = codes "source " ++ (decimal place.node ++ (codes " line " ++ decimal place.line))

unfoldable pub no_line_text : ℕ → ℕ → List ℕ
no_line_text node bit = codes ": it has no line bit " ++ (decimal node ++ (codes " " ++ decimal bit))

unfoldable pub no_way_text : ℕ → ℕ → ℕ → List ℕ
no_way_text node other bit = codes " has no way to node " ++ (decimal other ++ no_line_text node bit)

abbrev pub doubt_text : Doubt → List ℕ
doubt_text (NoDifference node bit) = codes "no id here differs from that of node " ++ (decimal node ++ (codes " first in bit " ++ decimal bit))
doubt_text (NoWay node other bit) = codes "node " ++ (decimal node ++ no_way_text node other bit)
doubt_text CodeEnds = codes "the code ends behind this instruction"
doubt_text (NothingBehind label) = codes "no instruction comes after the label " ++ label
doubt_text (LabelUnnamed label) = codes "the label " ++ (label ++ codes " is named nowhere")
doubt_text (RegisterUnnamed register) = register ++ codes " is named nowhere else"
doubt_text (NoSuchId value) = codes "no node has the id " ++ (id_text (value / 65536) ++ (codes " of " ++ value_text value))

-- what is told of one
unfoldable pub warning_text : Warning → List ℕ
warning_text w = place_text w.site.source w.site.number ++ (codes ": warning: " ++ (doubt_text w.doubt ++ codes "\n"))

-- The line as it stands comes below the last of its warnings. Those of one line stand together.
abbrev pub is_of_line : ℕ → List Warning → Bool
is_of_line number [] = false
is_of_line number (w ∷ ws) = w.site.number == number

abbrev pub line_below : Site → List Warning → List ℕ
line_below site ws = if is_of_line site.number ws then [] else line_shown site.number site.bytes

-- what is told of some
unfoldable pub told_text : List Warning → List ℕ
told_text [] = []
told_text (w ∷ ws) = warning_text w ++ (line_below w.site ws ++ told_text ws)

-- `more C`, where there are more warnings than are told
abbrev pub more_text : ℕ → List ℕ
more_text count = if nat_lt MOST_WARNINGS count then codes "more " ++ (decimal (count - MOST_WARNINGS) ++ codes "\n") else []

unfoldable pub warnings_text : List Warning → List ℕ
warnings_text ws = told_text (take MOST_WARNINGS ws) ++ more_text (length ws)
