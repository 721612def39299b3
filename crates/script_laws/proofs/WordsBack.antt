-- The line of a script that was made for a change has this change's form.
use Rattle.std.proofs.Common.{◌≡◌, ℕ, ◌+◌, ◌<◌, ◌≤◌, ◌^◌, true, not, ◌==◌, List, [], ◌∷◌, ◌++◌, length, take, drop, ap, ◌∙◌, arith}
use Rattle.std.specs.Prelude.{Some, codes, decimal}
use Rattle.std.specs.List.{list_all}
use Rattle.std.specs.Char.{is_ascii_digit}
use Rattle.std.proofs.lemmas.Bool.{and_parts, cond-true, le-leb}
use Rattle.xs_base.specs.Ids.{port_width}
use Rattle.xs_text.specs.Numbers.{at_most}
use Rattle.xs_text.specs.Words.{words_of_line}
use Rattle.pin_scripts.specs.declared.line.PinLine.{PinLine}
use Rattle.pin_scripts.specs.declared.line.PinForm.{PinForm}
use Rattle.pin_scripts.specs.declared.line.PinSays.TheVariants.{Form}
use Rattle.pin_scripts.specs.Pins.{before_colon, word_number, port_word, pin_form, says_form, says_words}
use Rattle.trace_model.specs.EventLines.{port_name}
use Rattle.trace_model.specs.Trace.{pin_text}
use Rattle.source_laws.proofs.Digits.{decimal_run, decimal_allowed}
use Rattle.wave_model.specs.Waves.{script_line}
use Rattle.load_laws.proofs.PlainWords.{is_plain_word, words_next, words_last}
use Rattle.load_laws.proofs.NumbersRead.{number_back, run_plain, plain_append, before, after, bind}
use Rattle.load_laws.proofs.TextRead.{allowed_append}
use Rattle.script_laws.proofs.LinesBack.{IsAllowed}
use Rattle.script_laws.proofs.PortNames.{name_of_port}

-- ---- Words

-- a number in decimal is read as this number
word_back : (n : ℕ) → n ≤ 4294967295 → word_number (decimal n) ≡ Some n
word_back n h = ap (at_most 4294967295) (number_back n (omega (arith, h))) ∙ cond-true _ _ _ (le-leb n 4294967295 h)

-- and is a plain word
decimal_plain : (n : ℕ) → n ≤ 4294967295 → is_plain_word (decimal n) ≡ true
decimal_plain n h = run_plain (decimal n) (decimal_run n (omega (arith, h)))

decimal_digits : (n : ℕ) → n ≤ 4294967295 → list_all is_ascii_digit (decimal n) ≡ true
decimal_digits n h = (and_parts (not (length (decimal n) == 0)) _ (decimal_run n (omega (arith, h)))).1

allowed_number : (n : ℕ) → n ≤ 4294967295 → IsAllowed (decimal n)
allowed_number n h = decimal_allowed n (omega (arith, h))

-- three words of which each is read
form_back : (s pin v : List ℕ) (slot node port value : ℕ)
    → word_number s ≡ Some slot → word_number (take (before_colon pin) pin) ≡ Some node → port_word (drop (before_colon pin + 1) pin) ≡ Some (Some port) → word_number v ≡ Some value
    → pin_form (s ∷ pin ∷ v ∷ []) ≡ Some (record { slot = slot; node = node; port = Some port; value = value })
unfolding pin_form
form_back s pin v slot node port value a b c d =
    bind (word_number s) slot _ a
    ∙ (bind (word_number (take (before_colon pin) pin)) node _ b
    ∙ (bind (port_word (drop (before_colon pin + 1) pin)) (Some port) _ c ∙ bind (word_number v) value _ d))

-- ---- Lines

-- a line whose numbers are within what a script may have
pub record IsScriptLine (line : PinLine) : Type 0 where
  pub number : line.node < 100
  pub slot : line.slot < 1000000
  pub port : line.port < 29
  pub value : line.value < 2 ^ port_width line.port

-- such a line of the node with this number
pub record IsLineOf (node : ℕ) (line : PinLine) : Type 0 where
  pub own : line.node ≡ node
  pub fits : IsScriptLine line

-- a line as it is written
abbrev pub form_of : PinLine → PinForm
form_of line = record { slot = line.slot; node = line.node; port = Some line.port; value = line.value }

module _ (line : PinLine) (good : IsScriptLine line) where
  small_slot : line.slot ≤ 4294967295
  small_slot = omega (arith, good.slot)

  small_number : line.node ≤ 4294967295
  small_number = omega (arith, good.number)

  small_value : line.value ≤ 4294967295
  small_value = omega (arith, good.value, (name_of_port line.port good.port).narrow)

  -- the bytes of the line
  pub line_allowed : IsAllowed (script_line line)
  line_allowed =
      allowed_append (decimal line.slot) (codes " " ++ (pin_text line.node line.port ++ (codes " " ++ decimal line.value))) (allowed_number line.slot small_slot)
      (allowed_append (pin_text line.node line.port) (codes " " ++ decimal line.value)
      (allowed_append (decimal line.node) (58 ∷ port_name line.port) (allowed_number line.node small_number) (name_of_port line.port good.port).allowed)
      (allowed_number line.value small_value))

  -- the words of the line
  words : words_of_line (script_line line) ≡ decimal line.slot ∷ pin_text line.node line.port ∷ decimal line.value ∷ []
  words =
      let pin = plain_append (decimal line.node) (58 ∷ port_name line.port) (decimal_plain line.node small_number) (name_of_port line.port good.port).plain in
      words_next (decimal line.slot) (pin_text line.node line.port ++ (codes " " ++ decimal line.value)) (decimal_plain line.slot small_slot)
      ∙ ap (λ w. decimal line.slot ∷ w) (words_next (pin_text line.node line.port) (decimal line.value) pin
      ∙ ap (λ w. pin_text line.node line.port ∷ w) (words_last (decimal line.value) (decimal_plain line.value small_value)))

  -- what the line says
  pub line_says : says_words (words_of_line (script_line line)) ≡ Form (form_of line)
  line_says =
      let digits = decimal_digits line.node small_number in
      ap says_words words
      ∙ ap says_form (form_back (decimal line.slot) (pin_text line.node line.port) (decimal line.value) line.slot line.node line.port line.value
      (word_back line.slot small_slot)
      (ap word_number (before (decimal line.node) (port_name line.port) digits) ∙ word_back line.node small_number)
      (ap port_word (after (decimal line.node) (port_name line.port) digits) ∙ (name_of_port line.port good.port).read)
      (word_back line.value small_value))
