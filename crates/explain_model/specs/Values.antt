-- Directives: what may come after the name of each.
use Rattle.std.specs.Prelude.{ℕ, Bool, true, false, ◌&&◌, not, if◌then◌else◌, Option, Some, None, List, [], ◌∷◌, map, codes}
use Rattle.xs_text.specs.Tokens.{Token}
use Rattle.xs_text.specs.declared.token_reader.TokKind.{TokKind}
use Rattle.xs_text.specs.declared.token_reader.TokKind.TheVariants.{Name, Number, Mark, Stray}
use Rattle.xs_instructions.specs.Image.{same_name, is_reserved}
use Rattle.source_model.specs.declared.layout.Width.{Width}
use Rattle.source_model.specs.declared.layout.Width.TheVariants.{Byte, Short, Word}
use Rattle.source_model.specs.Values.{Next, ValueNext, DigitsNext, CommaNext, greatest_value, greatest_negative}
use Rattle.explain_model.specs.declared.Want.{Want}
use Rattle.explain_model.specs.declared.Want.TheVariants as want
use Rattle.explain_model.specs.declared.TheConstants.{DIRECTIVES}
use Rattle.explain_model.specs.Placed.{Placed, end_of}
use Rattle.explain_model.specs.Forms.{Stop, fits_number, stop_of}

-- ---- Lists of values

abbrev pub is_word : Width → Bool
is_word Word = true
is_word _ = false

-- a value without a sign: a label may be one of `.word` alone
abbrev pub is_plain_value : TokKind → Width → Token → Bool
is_plain_value Name width t = is_word width && not (is_reserved t.bytes)
is_plain_value Number width t = fits_number 0 (greatest_value width) t
is_plain_value Mark width t = false
is_plain_value Stray width t = false

-- what may come in a list of values
abbrev pub next_want : Next → Width → Want
next_want ValueNext width = want.Value width
next_want DigitsNext width = want.Number 0 (greatest_negative width)
next_want CommaNext width = want.CommaOrEnd

-- at the end of the line the list is whole where a comma might come
abbrev pub values_end : Next → Width → Option Want
values_end CommaNext width = None
values_end next width = Some (next_want next width)

-- what may come after a token, None where it may not stand there
abbrev pub next_after : Next → Width → Token → Option Next
next_after ValueNext width t =
    if same_name (codes "-") t.bytes then Some DigitsNext
    else (if is_plain_value t.kind width t then Some CommaNext else None)
next_after DigitsNext width t = if fits_number 0 (greatest_negative width) t then Some CommaNext else None
next_after CommaNext width t = if same_name (codes ",") t.bytes then Some ValueNext else None

abbrev pub on_unless_none : Stop → (Next → Stop) → Option Next → Stop
on_unless_none stop on None = stop
on_unless_none stop on (Some after) = on after

-- where a list of values stops, from there on, where the token before ends at a place
unfoldable pub values_stop : ℕ → Next → Width → List Placed → Stop
values_stop behind next width [] = record { at = behind; all_fit = true; want = values_end next width }
values_stop behind next width (p ∷ tokens) =
    on_unless_none (record { at = p.at; all_fit = false; want = Some (next_want next width) })
    (λ after. values_stop (end_of p) after width tokens) (next_after next width p.token)

-- ---- All directives

-- what comes after the name of a directive
pub data DirectiveForm : Type 0 where
  Places : (form : List Want) → DirectiveForm
  Values : (width : Width) → DirectiveForm

-- None where there is no such directive
abbrev pub bytes_form : List ℕ → Option DirectiveForm
bytes_form name =
    if same_name (codes ".word") name then Some (Values Word)
    else (if same_name (codes ".short") name then Some (Values Short)
    else (if same_name (codes ".byte") name then Some (Values Byte)
    else (if same_name (codes ".space") name then Some (Places (want.Number 0 65536 ∷ [])) else None)))

abbrev pub directive_form : List ℕ → Option DirectiveForm
directive_form name =
    if same_name (codes ".text") name then Some (Places [])
    else (if same_name (codes ".globl") name then Some (Places (want.AnyName ∷ []))
    else (if same_name (codes ".align") name then Some (Places (want.Number 1 1024 ∷ []))
    else (if same_name (codes ".data") name then Some (Places [])
    else (if same_name (codes ".cp") name then Some (Places []) else bytes_form name))))

-- where what comes after the name stops, which ends at a place
abbrev pub directive_stop : ℕ → List Placed → Option DirectiveForm → Stop
directive_stop behind tokens None = record { at = behind; all_fit = true; want = None }
directive_stop behind tokens (Some (Places form)) = stop_of behind form tokens
directive_stop behind tokens (Some (Values width)) = values_stop behind ValueNext width tokens

-- the names of all directives
abbrev pub directive_names : List (List ℕ)
directive_names = map (λ name. name.now) DIRECTIVES
