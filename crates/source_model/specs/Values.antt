-- Values of `.word`, `.short` and `.byte`.
use Rattle.std.specs.Prelude.{ℕ, ◌-◌, ◌/◌, ◌%◌, if◌then◌else◌, Option, Some, None, option_map, List, [], ◌∷◌, codes}
use Rattle.xs_text.specs.Tokens.{Token}
use Rattle.xs_text.specs.Numbers.{source_number_of, at_most}
use Rattle.xs_text.specs.declared.token_reader.TokKind.{TokKind}
use Rattle.xs_text.specs.declared.token_reader.TokKind.TheVariants.{Name, Number, Mark, Stray}
use Rattle.xs_instructions.specs.Image.{same_name, is_reserved}
use Rattle.source_model.specs.declared.layout.Width.{Width}
use Rattle.source_model.specs.declared.layout.Width.TheVariants.{Byte, Short, Word}
use Rattle.source_model.specs.Each.{put_first}
use Rattle.source_model.specs.Operands.{Amount, Known, Address}

-- in bytes
abbrev pub width_bytes : Width → ℕ
width_bytes Byte = 1
width_bytes Short = 2
width_bytes Word = 4

abbrev pub greatest_value : Width → ℕ
greatest_value Byte = 255
greatest_value Short = 65535
greatest_value Word = 4294967295

-- the greatest number that may have a sign
abbrev pub greatest_negative : Width → ℕ
greatest_negative Byte = 128
greatest_negative Short = 32768
greatest_negative Word = 2147483648

-- a number below zero, as a word
abbrev pub negated : ℕ → ℕ
negated n = (4294967296 - n) % 4294967296

-- the lowest bytes of a word, the lowest one first
abbrev pub little_endian : Width → ℕ → List ℕ
little_endian Byte n = n % 256 ∷ []
little_endian Short n = n % 256 ∷ n / 256 % 256 ∷ []
little_endian Word n = n % 256 ∷ n / 256 % 256 ∷ n / 65536 % 256 ∷ n / 16777216 % 256 ∷ []

-- a label may be a value of `.word` alone
abbrev pub label_value : Width → List ℕ → Option Amount
label_value Word name = if is_reserved name then None else Some (Address name)
label_value _ name = None

-- a value without a sign
abbrev pub plain_value : TokKind → Width → List ℕ → Option Amount
plain_value Name width bytes = label_value width bytes
plain_value Number width bytes = Some (Known (at_most (greatest_value width) (source_number_of bytes)))
plain_value Mark width bytes = None
plain_value Stray width bytes = None

-- a value after a sign
abbrev pub signed_value : TokKind → Width → List ℕ → Option Amount
signed_value Number width bytes = Some (Known (option_map negated (at_most (greatest_negative width) (source_number_of bytes))))
signed_value Name width bytes = None
signed_value Mark width bytes = None
signed_value Stray width bytes = None

-- what may come next in a list of values
pub data Next : Type 0 where
  ValueNext : Next
  DigitsNext : Next
  CommaNext : Next

-- the values from there on: one or more, commas between them, each with a sign or none
unfoldable pub values_from : Next → Width → List Token → Option (List Amount)
values_from ValueNext width [] = None
values_from DigitsNext width [] = None
values_from CommaNext width [] = Some []
values_from ValueNext width (t ∷ rest) =
    if same_name (codes "-") t.bytes
    then values_from DigitsNext width rest
    else put_first (plain_value t.kind width t.bytes) (values_from CommaNext width rest)
values_from DigitsNext width (t ∷ rest) = put_first (signed_value t.kind width t.bytes) (values_from CommaNext width rest)
values_from CommaNext width (t ∷ rest) = if same_name (codes ",") t.bytes then values_from ValueNext width rest else None

abbrev pub listed_values : Width → List Token → Option (List Amount)
listed_values width tokens = values_from ValueNext width tokens
