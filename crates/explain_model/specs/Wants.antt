-- What may stand at a place, in words. What is typed letter by letter stands in backquotes.
use Rattle.std.specs.Prelude.{ℕ, Bool, true, false, ◌==◌, ◌&&◌, if◌then◌else◌, Option, Some, None, List, [], ◌∷◌, ◌++◌, get_or, codes, decimal}
use Rattle.std.specs.List.{list_any}
use Rattle.xs_instructions.specs.declared.rows.Part.{Part}
use Rattle.xs_instructions.specs.declared.rows.Part.TheVariants.{Common, AnyRegister, Register, Small, Width, Short, Exactly, Label, Word}
use Rattle.xs_instructions.specs.Words.{fixed_text, register_names, same_name}
use Rattle.source_model.specs.declared.layout.Section.{Section}
use Rattle.source_model.specs.declared.layout.Section.TheVariants.{Text, Data, Constants}
use Rattle.source_model.specs.declared.layout.Width.{Width as ValueWidth}
use Rattle.source_model.specs.declared.layout.Width.TheVariants as width
use Rattle.explain_model.specs.declared.Want.{Want}
use Rattle.explain_model.specs.declared.Want.TheVariants as want
use Rattle.explain_model.specs.declared.FixedWord.{FixedWord}
use Rattle.explain_model.specs.declared.FixedWord.TheVariants as fixed

abbrev pub quoted : List ℕ → List ℕ
quoted text = codes "`" ++ (text ++ codes "`")

-- ---- In words

abbrev pub part_text : Part → List ℕ
part_text Common = codes "r0 to r11"
part_text AnyRegister = codes "r0 to r11, cp, dp, sp or lr"
part_text (Register r) = quoted (get_or register_names r [])
part_text Small = codes "a number, 0 to 11"
part_text Width = codes "a number of bits, 1 to 8, 16, 24 or 32"
part_text Short = codes "a number, 0 to 65535"
part_text (Exactly k) = quoted (decimal k)
part_text Label = codes "a label of the code"
part_text (Word k) = quoted (fixed_text k)

-- what `dp[u]` and `cp[u]` count from
abbrev pub base_text : Section → List ℕ
base_text Text = codes "the first instruction"
base_text Data = codes "the first byte of .data"
base_text Constants = codes "the first byte of .cp"

abbrev pub value_text : ValueWidth → List ℕ
value_text width.Byte = codes "a number, -128 to 255"
value_text width.Short = codes "a number, -32768 to 65535"
value_text width.Word = codes "a number, -2147483648 to 4294967295; a label"

abbrev pub statement_text : Section → List ℕ
statement_text Text = codes "an instruction; `.text`; `.globl`; `.align`; `.data`; `.cp`; a label with a colon behind it"
statement_text Data = codes "`.word`; `.short`; `.byte`; `.space`; `.align`; `.cp`; a label with a colon behind it"
statement_text Constants = codes "`.word`; `.short`; `.byte`; `.space`; `.align`; a label with a colon behind it"

-- a word of a frame or of a script as it stands
abbrev pub word_text : FixedWord → List ℕ
word_text fixed.Xs1 = codes "xs1"
word_text fixed.One = codes "1"
word_text fixed.Two = codes "2"
word_text fixed.Node = codes "node"
word_text fixed.Id = codes "id"
word_text fixed.Link = codes "link"
word_text fixed.Delay = codes "delay"
word_text fixed.Gap = codes "gap"
word_text fixed.Net = codes "net"
word_text fixed.Bit = codes "bit"
word_text fixed.Wire = codes "wire"
word_text fixed.Source = codes "source"
word_text fixed.Pins = codes "pins"
word_text fixed.Play = codes "play"
word_text fixed.Take = codes "take"
word_text fixed.Run = codes "run"
word_text fixed.Send = codes "send"
word_text fixed.End = codes "end"

-- the names of all ports
abbrev pub ports_text : List ℕ
ports_text = codes "1A to 1P, 4A to 4F, 8A to 8D, 16A, 16B or 32A"

abbrev pub want_text : Want → List ℕ
want_text (want.Operand part) = part_text part
want_text want.OtherRegister = codes "cp, dp, sp or lr"
want_text (want.Offset base) = codes "a number, 0 to 65535; a label that stands 0 to 65535 whole words behind " ++ base_text base
want_text (want.Number least most) = codes "a number, " ++ (decimal least ++ (codes " to " ++ decimal most))
want_text want.AnyName = codes "a name"
want_text (want.Value of_width) = value_text of_width
want_text want.CommaOrEnd = codes "`,`; the end of the line"
want_text want.LineEnd = codes "the end of the line"
want_text (want.Statement section) = statement_text section
want_text want.NewLabel = codes "a name that is no label yet"
want_text want.FreeName = codes "a name that the language does not keep"
want_text want.AllowedByte = codes "tab; the characters from space to ~"
want_text (want.Word word) = quoted (word_text word)
want_text want.LinkEnd = codes "N:E with N 0 to 99 and E 0 to 7"
want_text want.StepEnd = codes "N:E with N 0 to 99 and E a number"
want_text want.WirePin = codes "N:P with N 0 to 99 and P one of " ++ ports_text
want_text want.ScriptPin = codes "N:P with N a number and P one of " ++ ports_text

-- ---- A list of them

abbrev pub is_same_part : Part → Part → Bool
is_same_part Common Common = true
is_same_part AnyRegister AnyRegister = true
is_same_part (Register a) (Register b) = a == b
is_same_part Small Small = true
is_same_part Width Width = true
is_same_part Short Short = true
is_same_part (Exactly a) (Exactly b) = a == b
is_same_part Label Label = true
is_same_part (Word a) (Word b) = a == b
is_same_part _ _ = false

abbrev pub is_same_word : FixedWord → FixedWord → Bool
is_same_word a b = same_name (word_text a) (word_text b)

-- whether a want is another one; of those that stand together at a place it tells them apart
abbrev pub is_same_want : Want → Want → Bool
is_same_want (want.Operand a) (want.Operand b) = is_same_part a b
is_same_want want.OtherRegister want.OtherRegister = true
is_same_want (want.Offset a) (want.Offset b) = true
is_same_want want.LineEnd want.LineEnd = true
is_same_want (want.Number a b) (want.Number c d) = (a == c) && (b == d)
is_same_want (want.Word a) (want.Word b) = is_same_word a b
is_same_want want.LinkEnd want.LinkEnd = true
is_same_want want.StepEnd want.StepEnd = true
is_same_want want.WirePin want.WirePin = true
is_same_want want.ScriptPin want.ScriptPin = true
is_same_want _ _ = false

-- one more at the end, where it is not there yet
abbrev pub put_want : List Want → Want → List Want
put_want wants more = if list_any (λ w. is_same_want w more) wants then wants else wants ++ more ∷ []

-- The registers from r0 to r11 are told apart from the others, as forms may have both at a place.
abbrev pub add_want : List Want → Want → List Want
add_want wants (want.Operand AnyRegister) = put_want (put_want wants (want.Operand Common)) want.OtherRegister
add_want wants more = put_want wants more

abbrev pub add_wants : List Want → Option Want → List Want
add_wants wants None = wants
add_wants wants (Some more) = add_want wants more
