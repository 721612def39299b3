-- The lengths of the code and of both sections' bytes are those of the layout.
use Rattle.std.proofs.Common.{◌≡◌, ℕ, ◌+◌, ◌*◌, true, false, cond, List, [], ◌∷◌, length, flat_map, Option, Some, None, refl, sym, ap, ◌∙◌, arith, length-append}
use Rattle.std.specs.Prelude.{is_none, option_to_list}
use Rattle.std.proofs.lemmas.Bool.{false≢true}
use Rattle.std.proofs.lemmas.List.{length-replicate}
use Rattle.std.proofs.lemmas.List.Concat.{flat_map-cons}
use Rattle.source_model.specs.declared.layout.Section.{Section}
use Rattle.source_model.specs.declared.layout.Section.TheVariants.{Text, Data, Constants}
use Rattle.source_model.specs.declared.layout.Home.{Home}
use Rattle.source_model.specs.declared.layout.Home.TheVariants.{InText, InBytes}
use Rattle.source_model.specs.declared.layout.Width.{Width}
use Rattle.source_model.specs.declared.layout.Width.TheVariants.{Byte, Short, Word}
use Rattle.source_model.specs.declared.layout.Layout.{Layout}
use Rattle.source_model.specs.Operands.{Amount}
use Rattle.source_model.specs.Values.{width_bytes, little_endian}
use Rattle.source_model.specs.Statement.{Says, NoEffect, Unknown, Misshapen, Instruction, Values, Zeros, Align, Line}
use Rattle.source_model.specs.Layout.{Sofar, may_stand, added, moved, after_line, after_lines}
use Rattle.source_model.specs.Source.{values_in, amount_value, is_out_of_range, code_of, bytes_of, bytes_of_values, same_section, code_of_lines, bytes_of_lines}
use Rattle.source_laws.proofs.Each.{all_some-length}
use Rattle.source_laws.proofs.Sound.{IsSoundAt}
use Rattle.source_laws.proofs.Fine.{AreFine}

length_of_some : {A : Type 0} (o : Option A) → is_none o ≡ false → length (option_to_list o) ≡ 1
length_of_some None h = absurd (false≢true (sym h))
length_of_some (Some x) h = refl

-- bytes of a value
little_length : (width : Width) (n : ℕ) → length (little_endian width n) ≡ width_bytes width
little_length Byte n = refl
little_length Short n = refl
little_length Word n = refl

values_bytes : (width : Width) (values : List ℕ) → length (flat_map (little_endian width) values) ≡ width_bytes width * length values
values_bytes width [] = grind arith
values_bytes width (n ∷ values) =
    rw (flat_map-cons (little_endian width) n values, length-append, little_length width n, values_bytes width values) (grind arith)

bytes_of_some : (whole : Sofar) (width : Width) (amounts : List Amount) (o : Option (List ℕ)) → values_in whole amounts ≡ o → is_none o ≡ false → length (bytes_of_values width o) ≡ width_bytes width * length amounts
bytes_of_some whole width amounts None e h = absurd (false≢true (sym h))
bytes_of_some whole width amounts (Some values) e h = rw (← all_some-length (amount_value whole) amounts values e) (values_bytes width values)

-- a statement of bytes does not stand in the text, nor an instruction elsewhere
no_bytes_in_text : (home : Home) → home ≡ InBytes → may_stand Text home ≡ true → ⊥
no_bytes_in_text home e h = false≢true (sym (ap (may_stand Text) e) ∙ h)

no_code_in_data : (home : Home) → home ≡ InText → may_stand Data home ≡ true → ⊥
no_code_in_data home e h = false≢true (sym (ap (may_stand Data) e) ∙ h)

no_code_in_constants : (home : Home) → home ≡ InText → may_stand Constants home ≡ true → ⊥
no_code_in_constants home e h = false≢true (sym (ap (may_stand Constants) e) ∙ h)

-- a statement adds as much as it has
code_added : (whole : Sofar) (long : ℕ) (home : Home) (says : Says) → IsSoundAt home says → may_stand Text home ≡ true → is_out_of_range whole says ≡ false → length (code_of whole long says) ≡ added long says
code_added whole long home NoEffect s h r = refl
code_added whole long home Unknown s h r = refl
code_added whole long home Misshapen s h r = refl
code_added whole long home (Instruction row amounts) s h r = length_of_some _ r
code_added whole long home (Values width amounts) s h r = absurd (no_bytes_in_text home s h)
code_added whole long home (Zeros count) s h r = absurd (no_bytes_in_text home s h)
code_added whole long home (Align None) s h r = absurd (false≢true (sym r))
code_added whole long home (Align (Some unit)) s h r = length-replicate _ _

bytes_added : (whole : Sofar) (long : ℕ) (home : Home) (says : Says) → IsSoundAt home says → (home ≡ InText → ⊥) → is_out_of_range whole says ≡ false → length (bytes_of whole long says) ≡ added long says
bytes_added whole long home NoEffect s h r = refl
bytes_added whole long home Unknown s h r = refl
bytes_added whole long home Misshapen s h r = refl
bytes_added whole long home (Instruction row amounts) s h r = absurd (h s.0)
bytes_added whole long home (Values width amounts) s h r = bytes_of_some whole width amounts (values_in whole amounts) refl r
bytes_added whole long home (Zeros None) s h r = absurd (false≢true (sym r))
bytes_added whole long home (Zeros (Some count)) s h r = length-replicate _ _
bytes_added whole long home (Align None) s h r = absurd (false≢true (sym r))
bytes_added whole long home (Align (Some unit)) s h r = length-replicate _ _

-- the layout after a statement that may stand there
pub code_step : (whole : Sofar) (section : Section) (i d c : ℕ) (home : Home) (says : Says) → IsSoundAt home says → may_stand section home ≡ true → is_out_of_range whole says ≡ false
    → length (cond (same_section Text section) (code_of whole i says) []) + i ≡ (moved (record { section = section; instructions = i; data_bytes = d; constant_bytes = c }) (record { home = home; says = says })).instructions
code_step whole Text i d c home says s h r = rw h (omega (arith, code_added whole i home says s h r))
code_step whole Data i d c home says s h r = rw h (omega arith)
code_step whole Constants i d c home says s h r = rw h (omega arith)

data_step : (whole : Sofar) (section : Section) (i d c : ℕ) (home : Home) (says : Says) → IsSoundAt home says → may_stand section home ≡ true → is_out_of_range whole says ≡ false
    → length (cond (same_section Data section) (bytes_of whole d says) []) + d ≡ (moved (record { section = section; instructions = i; data_bytes = d; constant_bytes = c }) (record { home = home; says = says })).data_bytes
data_step whole Text i d c home says s h r = rw h (omega arith)
data_step whole Data i d c home says s h r = rw h (omega (arith, bytes_added whole d home says s (λ e. no_code_in_data home e h) r))
data_step whole Constants i d c home says s h r = rw h (omega arith)

constants_step : (whole : Sofar) (section : Section) (i d c : ℕ) (home : Home) (says : Says) → IsSoundAt home says → may_stand section home ≡ true → is_out_of_range whole says ≡ false
    → length (cond (same_section Constants section) (bytes_of whole c says) []) + c ≡ (moved (record { section = section; instructions = i; data_bytes = d; constant_bytes = c }) (record { home = home; says = says })).constant_bytes
constants_step whole Text i d c home says s h r = rw h (omega arith)
constants_step whole Data i d c home says s h r = rw h (omega arith)
constants_step whole Constants i d c home says s h r = rw h (omega (arith, bytes_added whole c home says s (λ e. no_code_in_constants home e h) r))

pub layout_after : (before : Sofar) (line : Line) → line.bad_byte ≡ false → (after_line before line).layout ≡ moved before.layout line.statement
layout_after before line h = rw h refl

pub code_length : (whole before : Sofar) (lines : List Line) → AreFine whole before lines → length (code_of_lines whole before lines) + before.layout.instructions ≡ (after_lines before lines).layout.instructions
unfolding code_of_lines after_lines
code_length whole before [] h = omega arith
code_length whole before (line ∷ lines) h =
    let layout = before.layout in
    let step = code_step whole layout.section layout.instructions layout.data_bytes layout.constant_bytes line.statement.home line.statement.says h.0.sound.says h.0.stands h.0.in_range in
    let after = ap (λ (l : Layout). l.instructions) (layout_after before line h.0.allowed) in
    let rest = code_length whole (after_line before line) lines h.1 in
    rw (length-append, ← rest, after, ← step) (omega arith)

pub data_length : (whole before : Sofar) (lines : List Line) → AreFine whole before lines → length (bytes_of_lines Data whole before lines) + before.layout.data_bytes ≡ (after_lines before lines).layout.data_bytes
unfolding bytes_of_lines after_lines
data_length whole before [] h = omega arith
data_length whole before (line ∷ lines) h =
    let layout = before.layout in
    let step = data_step whole layout.section layout.instructions layout.data_bytes layout.constant_bytes line.statement.home line.statement.says h.0.sound.says h.0.stands h.0.in_range in
    let after = ap (λ (l : Layout). l.data_bytes) (layout_after before line h.0.allowed) in
    let rest = data_length whole (after_line before line) lines h.1 in
    rw (length-append, ← rest, after, ← step) (omega arith)

pub constants_length : (whole before : Sofar) (lines : List Line) → AreFine whole before lines → length (bytes_of_lines Constants whole before lines) + before.layout.constant_bytes ≡ (after_lines before lines).layout.constant_bytes
unfolding bytes_of_lines after_lines
constants_length whole before [] h = omega arith
constants_length whole before (line ∷ lines) h =
    let layout = before.layout in
    let step = constants_step whole layout.section layout.instructions layout.data_bytes layout.constant_bytes line.statement.home line.statement.says h.0.sound.says h.0.stands h.0.in_range in
    let after = ap (λ (l : Layout). l.constant_bytes) (layout_after before line h.0.allowed) in
    let rest = constants_length whole (after_line before line) lines h.1 in
    rw (length-append, ← rest, after, ← step) (omega arith)
