-- Lines without a fault: the state after them, and the code and the bytes that they give.
use Rattle.std.proofs.Common.{◌≡◌, ℕ, ◌+◌, ◌%◌, ◌<◌, ◌≤◌, false, List, [], ◌∷◌, ◌++◌, refl, sym, ap, ◌∙◌, arith, append_assoc, add-zero, nat_lt}
use Rattle.std.specs.Prelude.{Option, Some, None, is_some, is_none, option_to_list}
use Rattle.std.specs.List.{list_any}
use Rattle.std.proofs.lemmas.Bool.{cond-false, or_from}
use Rattle.std.proofs.lemmas.Bool.Decides.{nat_tests}
use Rattle.xs_instructions.specs.declared.rows.Row.{Row}
use Rattle.xs_instructions.specs.declared.instr.Instr.{Instr}
use Rattle.xs_instructions.specs.Image.{is_reserved}
use Rattle.source_model.specs.declared.AsmKind.{AsmKind}
use Rattle.source_model.specs.declared.layout.Section.{Section}
use Rattle.source_model.specs.declared.layout.Section.TheVariants.{Text, Data, Constants}
use Rattle.source_model.specs.declared.layout.Home.{Home}
use Rattle.source_model.specs.declared.layout.Home.TheVariants.{Anywhere, InText, InBytes, BeginsData, BeginsConstants}
use Rattle.source_model.specs.declared.layout.Layout.{Layout}
use Rattle.source_model.specs.declared.layout.Place.{Place}
use Rattle.source_model.specs.declared.layout.Width.TheVariants as width
use Rattle.source_model.specs.Each.{all_some}
use Rattle.source_model.specs.Operands.{Amount, Known}
use Rattle.source_model.specs.Statement as says
use Rattle.source_model.specs.Statement.{Line}
use Rattle.source_model.specs.Layout.{Label, Sofar, place_of, section_length, here, define_all, after_line, after_lines, bytes_length}
use Rattle.source_model.specs.Source.{values_in, instruction_in, is_missing, fault_of_line, first_fault, or_fault, has_bad_byte, has_label_twice, is_not_allowed, has_unknown_name, has_wrong_operands, has_number_out_of_range, has_label_missing, defines_twice, code_of_line, code_of_lines, bytes_of_line, bytes_of_lines, bytes_of_values}

-- the state in a section, with so many instructions, bytes of data and bytes of constants
abbrev pub state : Section → ℕ → ℕ → ℕ → List Label → Sofar
state section n d k labels =
    record { layout = record { section = section; instructions = n; data_bytes = d; constant_bytes = k }; labels = labels }

pub record Fits (layout : Layout) : Type 0 where
  pub code : layout.instructions ≤ 16384
  pub bytes : bytes_length layout.data_bytes layout.constant_bytes ≤ 65536

-- a line without a fault, and what it gives
pub record IsClean (whole before final : Sofar) (line : Line) (instructions : List Instr) (in_first in_second : List ℕ) : Type 0 where
  pub after : after_line before line ≡ final
  pub fault : fault_of_line whole before line ≡ None
  pub code : code_of_line whole before line ≡ instructions
  pub in_data : bytes_of_line Data whole before line ≡ in_first
  pub in_constants : bytes_of_line Constants whole before line ≡ in_second

-- lines without a fault, and what they give
pub record AreClean (whole before final : Sofar) (lines : List Line) (instructions : List Instr) (in_first in_second : List ℕ) : Type 0 where
  pub after : after_lines before lines ≡ final
  pub fault : (n : ℕ) → first_fault whole before n lines ≡ None
  pub code : code_of_lines whole before lines ≡ instructions
  pub in_data : bytes_of_lines Data whole before lines ≡ in_first
  pub in_constants : bytes_of_lines Constants whole before lines ≡ in_second

module _ (whole : Sofar) where
  pub clean-nil : (before : Sofar) → AreClean whole before before [] [] [] []
  unfolding after_lines first_fault code_of_lines bytes_of_lines
  clean-nil before = record { after = refl; fault = λ n. refl; code = refl; in_data = refl; in_constants = refl }

  after-cons : (before : Sofar) (line : Line) (lines : List Line) → after_lines before (line ∷ lines) ≡ after_lines (after_line before line) lines
  unfolding after_lines
  after-cons before line lines = refl

  fault-cons : (before : Sofar) (n : ℕ) (line : Line) (lines : List Line) → first_fault whole before n (line ∷ lines) ≡ or_fault n (fault_of_line whole before line) (first_fault whole (after_line before line) (n + 1) lines)
  unfolding first_fault
  fault-cons before n line lines = refl

  code-cons : (before : Sofar) (line : Line) (lines : List Line) → code_of_lines whole before (line ∷ lines) ≡ code_of_line whole before line ++ code_of_lines whole (after_line before line) lines
  unfolding code_of_lines
  code-cons before line lines = refl

  bytes-cons : (section : Section) (before : Sofar) (line : Line) (lines : List Line) → bytes_of_lines section whole before (line ∷ lines) ≡ bytes_of_line section whole before line ++ bytes_of_lines section whole (after_line before line) lines
  unfolding bytes_of_lines
  bytes-cons section before line lines = refl

  pub clean-cons : (before between after : Sofar) (line : Line) (lines : List Line) (c c' : List Instr) (d d' k k' : List ℕ) → IsClean whole before between line c d k → AreClean whole between after lines c' d' k' → AreClean whole before after (line ∷ lines) (c ++ c') (d ++ d') (k ++ k')
  clean-cons before between after line lines c c' d d' k k' h r = record {
    after = after-cons before line lines ∙ (ap (λ s. after_lines s lines) h.after ∙ r.after);
    fault = λ n. fault-cons before n line lines
        ∙ (ap (λ o. or_fault n o (first_fault whole (after_line before line) (n + 1) lines)) h.fault
        ∙ (ap (λ s. first_fault whole s (n + 1) lines) h.after ∙ r.fault (n + 1)));
    code = code-cons before line lines ∙ (ap (λ l. l ++ code_of_lines whole (after_line before line) lines) h.code ∙ ap (λ l. c ++ l) (ap (λ s. code_of_lines whole s lines) h.after ∙ r.code));
    in_data = bytes-cons Data before line lines ∙ (ap (λ l. l ++ bytes_of_lines Data whole (after_line before line) lines) h.in_data ∙ ap (λ l. d ++ l) (ap (λ s. bytes_of_lines Data whole s lines) h.after ∙ r.in_data));
    in_constants = bytes-cons Constants before line lines ∙ (ap (λ l. l ++ bytes_of_lines Constants whole (after_line before line) lines) h.in_constants ∙ ap (λ l. k ++ l) (ap (λ s. bytes_of_lines Constants whole s lines) h.after ∙ r.in_constants));
  }

  -- lines after lines

  after-append : (before : Sofar) (lines more : List Line) → after_lines before (lines ++ more) ≡ after_lines (after_lines before lines) more
  unfolding after_lines
  after-append before [] more = refl
  after-append before (line ∷ lines) more = after-append (after_line before line) lines more

  no_fault_more : (n : ℕ) (o : Option AsmKind) (p q : Option (ℕ × AsmKind)) → or_fault n o p ≡ None → (p ≡ None → q ≡ None) → or_fault n o q ≡ None
  no_fault_more n None p q h k = k h
  no_fault_more n (Some kind) p q h k = absurd (cc)

  fault-append : (before : Sofar) (n : ℕ) (lines more : List Line) → first_fault whole before n lines ≡ None → ((m : ℕ) → first_fault whole (after_lines before lines) m more ≡ None) → first_fault whole before n (lines ++ more) ≡ None
  unfolding first_fault after_lines
  fault-append before n [] more h k = k n
  fault-append before n (line ∷ lines) more h k =
      no_fault_more n (fault_of_line whole before line) (first_fault whole (after_line before line) (n + 1) lines) (first_fault whole (after_line before line) (n + 1) (lines ++ more)) h
      (λ e. fault-append (after_line before line) (n + 1) lines more e k)

  code-append : (before : Sofar) (lines more : List Line) → code_of_lines whole before (lines ++ more) ≡ code_of_lines whole before lines ++ code_of_lines whole (after_lines before lines) more
  unfolding code_of_lines after_lines
  code-append before [] more = refl
  code-append before (line ∷ lines) more =
      ap (λ l. code_of_line whole before line ++ l) (code-append (after_line before line) lines more) ∙ sym (append_assoc (code_of_line whole before line) _ _)

  bytes-append : (section : Section) (before : Sofar) (lines more : List Line) → bytes_of_lines section whole before (lines ++ more) ≡ bytes_of_lines section whole before lines ++ bytes_of_lines section whole (after_lines before lines) more
  unfolding bytes_of_lines after_lines
  bytes-append section before [] more = refl
  bytes-append section before (line ∷ lines) more =
      ap (λ l. bytes_of_line section whole before line ++ l) (bytes-append section (after_line before line) lines more) ∙ sym (append_assoc (bytes_of_line section whole before line) _ _)

  pub clean-append : (before between after : Sofar) (lines more : List Line) (c c' : List Instr) (d d' k k' : List ℕ) → AreClean whole before between lines c d k → AreClean whole between after more c' d' k' → AreClean whole before after (lines ++ more) (c ++ c') (d ++ d') (k ++ k')
  clean-append before between after lines more c c' d d' k k' h r = record {
    after = after-append before lines more ∙ (ap (λ s. after_lines s more) h.after ∙ r.after);
    fault = λ n. fault-append before n lines more (h.fault n) (λ m. ap (λ s. first_fault whole s m more) h.after ∙ r.fault m);
    code = code-append before lines more ∙ (ap (λ l. l ++ code_of_lines whole (after_lines before lines) more) h.code ∙ ap (λ l. c ++ l) (ap (λ s. code_of_lines whole s more) h.after ∙ r.code));
    in_data = bytes-append Data before lines more ∙ (ap (λ l. l ++ bytes_of_lines Data whole (after_lines before lines) more) h.in_data ∙ ap (λ l. d ++ l) (ap (λ s. bytes_of_lines Data whole s more) h.after ∙ r.in_data));
    in_constants = bytes-append Constants before lines more ∙ (ap (λ l. l ++ bytes_of_lines Constants whole (after_lines before lines) more) h.in_constants ∙ ap (λ l. k ++ l) (ap (λ s. bytes_of_lines Constants whole s more) h.after ∙ r.in_constants));
  }

  -- the nine tests

  not_above : (most n : ℕ) → n ≤ most → nat_lt most n ≡ false
  not_above most n h = grind (arith, nat_tests)

  pub no_fault : (before after : Sofar) (line : Line) → after_line before line ≡ after → Fits after.layout → has_bad_byte whole before line ≡ false → has_label_twice whole before line ≡ false → is_not_allowed whole before line ≡ false → has_unknown_name whole before line ≡ false → has_wrong_operands whole before line ≡ false → has_number_out_of_range whole before line ≡ false → has_label_missing whole before line ≡ false → fault_of_line whole before line ≡ None
  no_fault before after line e fits bad twice placed unknown wrong range missing =
      cond-false _ _ _ bad
      ∙ (cond-false _ _ _ twice
      ∙ (cond-false _ _ _ placed
      ∙ (cond-false _ _ _ unknown
      ∙ (cond-false _ _ _ wrong
      ∙ (cond-false _ _ _ range
      ∙ (cond-false _ _ _ missing
      ∙ (cond-false _ _ _ (ap (λ (s : Sofar). nat_lt 16384 s.layout.instructions) e ∙ not_above 16384 after.layout.instructions fits.code)
      ∙ cond-false _ _ _ (ap (λ (s : Sofar). nat_lt 65536 (bytes_length s.layout.data_bytes s.layout.constant_bytes)) e ∙ not_above 65536 _ fits.bytes))))))))

  -- a label's line

  define-one : (place : Place) (name : List ℕ) (labels : List Label) → is_reserved name ≡ false → place_of labels name ≡ None → define_all place (name ∷ []) labels ≡ labels ++ (name, place) ∷ []
  unfolding define_all
  define-one place name labels h k = cond-false _ _ _ (or_from (is_reserved name) (is_some (place_of labels name)) h (ap is_some k))

  twice-one : (place : Place) (name : List ℕ) (labels : List Label) → place_of labels name ≡ None → defines_twice place labels (name ∷ []) ≡ false
  unfolding defines_twice
  twice-one place name labels k = or_from (is_some (place_of labels name)) false (ap is_some k) refl

  abbrev label_line : List ℕ → Line
  label_line name = record { bad_byte = false; labels = name ∷ []; statement = record { home = Anywhere; says = says.NoEffect } }

  after_label : (section : Section) (n d k : ℕ) (labels : List Label) (name : List ℕ) → is_reserved name ≡ false → place_of labels name ≡ None → after_line (state section n d k labels) (label_line name) ≡ state section n d k (labels ++ (name, record { section = section; offset = section_length (state section n d k labels).layout section }) ∷ [])
  after_label Text n d k labels name h e =
      ap (λ m. state Text m d k (define_all (record { section = Text; offset = n }) (name ∷ []) labels)) (add-zero n)
      ∙ ap (λ l. state Text n d k l) (define-one (record { section = Text; offset = n }) name labels h e)
  after_label Data n d k labels name h e =
      ap (λ m. state Data n m k (define_all (record { section = Data; offset = d }) (name ∷ []) labels)) (add-zero d)
      ∙ ap (λ l. state Data n d k l) (define-one (record { section = Data; offset = d }) name labels h e)
  after_label Constants n d k labels name h e =
      ap (λ m. state Constants n d m (define_all (record { section = Constants; offset = k }) (name ∷ []) labels)) (add-zero k)
      ∙ ap (λ l. state Constants n d k l) (define-one (record { section = Constants; offset = k }) name labels h e)

  nothing_given : (section : Section) (n d k : ℕ) (labels : List Label) (name : List ℕ) → (code_of_line whole (state section n d k labels) (label_line name) ≡ []) × (bytes_of_line Data whole (state section n d k labels) (label_line name) ≡ []) × (bytes_of_line Constants whole (state section n d k labels) (label_line name) ≡ []) × (is_not_allowed whole (state section n d k labels) (label_line name) ≡ false)
  nothing_given Text n d k labels name = (refl, refl, refl, refl)
  nothing_given Data n d k labels name = (refl, refl, refl, refl)
  nothing_given Constants n d k labels name = (refl, refl, refl, refl)

  pub clean_label : (section : Section) (n d k : ℕ) (labels : List Label) (name : List ℕ) → Fits (state section n d k []).layout → is_reserved name ≡ false → place_of labels name ≡ None → IsClean whole (state section n d k labels) (state section n d k (labels ++ (name, record { section = section; offset = section_length (state section n d k labels).layout section }) ∷ [])) (label_line name) [] [] []
  clean_label section n d k labels name fits h e =
      let g = nothing_given section n d k labels name in
      let next = after_label section n d k labels name h e in
      record {
        after = next;
        fault = no_fault (state section n d k labels) _ (label_line name) next (record { code = fits.code; bytes = fits.bytes }) refl (twice-one _ name labels e) g.3 refl (or_from (list_any is_reserved (name ∷ [])) false (or_from (is_reserved name) false h refl) refl) refl refl;
        code = g.0;
        in_data = g.1;
        in_constants = g.2;
      }

  -- an instruction's line

  twice-none : (place : Place) (labels : List Label) → defines_twice place labels [] ≡ false
  unfolding defines_twice
  twice-none place labels = refl

  define-none : (place : Place) (labels : List Label) → define_all place [] labels ≡ labels
  unfolding define_all
  define-none place labels = refl

  abbrev instruction_line : Row → List Amount → Line
  instruction_line row amounts = record { bad_byte = false; labels = []; statement = record { home = InText; says = says.Instruction row amounts } }

  pub clean_instruction : (n d k : ℕ) (labels : List Label) (row : Row) (amounts : List Amount) (ins : Instr) → Fits (state Text (n + 1) d k []).layout → instruction_in whole row amounts ≡ Some ins → list_any (is_missing whole) amounts ≡ false → IsClean whole (state Text n d k labels) (state Text (n + 1) d k labels) (record { bad_byte = false; labels = []; statement = record { home = InText; says = says.Instruction row amounts } }) (ins ∷ []) [] []
  clean_instruction n d k labels row amounts ins fits h m =
      let next = ap (λ l. state Text (n + 1) d k l) (define-none (here (state Text n d k labels).layout) labels) in
      record {
        after = next;
        fault = no_fault (state Text n d k labels) _ (instruction_line row amounts) next (record { code = fits.code; bytes = fits.bytes }) refl (twice-none _ labels) refl refl refl (ap is_none h) m;
        code = ap option_to_list h;
        in_data = refl;
        in_constants = refl;
      }

  -- a byte's line

  value_of-byte : (v : ℕ) → values_in whole (Known (Some v) ∷ []) ≡ Some (v ∷ [])
  unfolding all_some
  value_of-byte v = refl

  abbrev byte_line : ℕ → Line
  byte_line v = record { bad_byte = false; labels = []; statement = record { home = InBytes; says = says.Values width.Byte (Known (Some v) ∷ []) } }

  low_byte : (v : ℕ) → v < 256 → v % 256 ≡ v
  low_byte v h = omega arith

  given : (v : ℕ) → v < 256 → bytes_of_values width.Byte (values_in whole (Known (Some v) ∷ [])) ≡ v ∷ []
  given v h = ap (λ o. bytes_of_values width.Byte o) (value_of-byte v) ∙ ap (λ x. x ∷ []) (low_byte v h)

  pub clean_data : (n d k v : ℕ) (labels : List Label) → Fits (state Data n (d + 1) k []).layout → v < 256 → IsClean whole (state Data n d k labels) (state Data n (d + 1) k labels) (byte_line v) [] (v ∷ []) []
  clean_data n d k v labels fits h =
      let next = ap (λ l. state Data n (d + 1) k l) (define-none (here (state Data n d k labels).layout) labels) in
      record {
        after = next;
        fault = no_fault (state Data n d k labels) _ (byte_line v) next (record { code = fits.code; bytes = fits.bytes }) refl (twice-none _ labels) refl refl refl (ap is_none (value_of-byte v)) refl;
        code = refl;
        in_data = given v h;
        in_constants = refl;
      }

  pub clean_constant : (n d k v : ℕ) (labels : List Label) → Fits (state Constants n d (k + 1) []).layout → v < 256 → IsClean whole (state Constants n d k labels) (state Constants n d (k + 1) labels) (byte_line v) [] [] (v ∷ [])
  clean_constant n d k v labels fits h =
      let next = ap (λ l. state Constants n d (k + 1) l) (define-none (here (state Constants n d k labels).layout) labels) in
      record {
        after = next;
        fault = no_fault (state Constants n d k labels) _ (byte_line v) next (record { code = fits.code; bytes = fits.bytes }) refl (twice-none _ labels) refl refl refl (ap is_none (value_of-byte v)) refl;
        code = refl;
        in_data = refl;
        in_constants = given v h;
      }

  -- the lines of the sections

  abbrev section_line : Home → Line
  section_line home = record { bad_byte = false; labels = []; statement = record { home = home; says = says.NoEffect } }

  pub clean_begins_data : (n : ℕ) (labels : List Label) → Fits (state Data n 0 0 []).layout → IsClean whole (state Text n 0 0 labels) (state Data n 0 0 labels) (record { bad_byte = false; labels = []; statement = record { home = BeginsData; says = says.NoEffect } }) [] [] []
  clean_begins_data n labels fits =
      let next = ap (λ l. state Data (n + 0) 0 0 l) (define-none (here (state Text n 0 0 labels).layout) labels) ∙ ap (λ m. state Data m 0 0 labels) (add-zero n) in
      record {
        after = next;
        fault = no_fault (state Text n 0 0 labels) _ (section_line BeginsData) next (record { code = fits.code; bytes = fits.bytes }) refl (twice-none _ labels) refl refl refl refl refl;
        code = refl;
        in_data = refl;
        in_constants = refl;
      }

  pub clean_begins_constants : (n d : ℕ) (labels : List Label) → Fits (state Constants n d 0 []).layout → IsClean whole (state Data n d 0 labels) (state Constants n d 0 labels) (record { bad_byte = false; labels = []; statement = record { home = BeginsConstants; says = says.NoEffect } }) [] [] []
  clean_begins_constants n d labels fits =
      let next = ap (λ l. state Constants n (d + 0) 0 l) (define-none (here (state Data n d 0 labels).layout) labels) ∙ ap (λ m. state Constants n m 0 labels) (add-zero d) in
      record {
        after = next;
        fault = no_fault (state Data n d 0 labels) _ (section_line BeginsConstants) next (record { code = fits.code; bytes = fits.bytes }) refl (twice-none _ labels) refl refl refl refl refl;
        code = refl;
        in_data = refl;
        in_constants = refl;
      }
