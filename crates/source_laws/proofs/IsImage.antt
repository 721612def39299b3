-- What a source without faults stands for keeps what every image keeps.
use Rattle.std.proofs.Common.{◌≡◌, ℕ, ◌+◌, ◌%◌, ◌<◌, List, [], ◌∷◌, length, map, Option, Some, None, refl, ap, ◌∙◌, subst, arith, length-append}
use Rattle.std.specs.Prelude.{IfSome}
use Rattle.std.specs.List.{AllByRecursion}
use Rattle.std.proofs.lemmas.List.{length-replicate}
use Rattle.xs_text.specs.Lines.{lines_of}
use Rattle.xs_instructions.specs.Image.{ImageRec, IsImage, data_start}
use Rattle.xs_instructions.specs.Instr.{InRange, label_of}
use Rattle.source_model.specs.declared.AsmKind.{AsmKind}
use Rattle.source_model.specs.declared.layout.Section.TheVariants.{Data, Constants}
use Rattle.source_model.specs.Statement.{Line, line_of}
use Rattle.source_model.specs.Layout.{nothing_yet, whole_of, round_up_to_word, bytes_length}
use Rattle.source_model.specs.Source.{first_fault, code_of_lines, bytes_of_lines, bytes_together, image_of, Image, outcome, assembled}
use Rattle.source_laws.proofs.FirstFault.{absent}
use Rattle.source_laws.proofs.Fine.{AreFine, all_sound, all_fine, all_code_fits, all_bytes_fit}
use Rattle.source_laws.proofs.Lengths.{code_length, data_length, constants_length}
use Rattle.source_laws.proofs.Labels.{IsTable, IsBounded, later_same, together, data_within, table_lines, labels_in_image}
use Rattle.source_laws.proofs.GoodCode.{IsThere, IsGood, IsWhole, code_good, all_then}

-- the bytes of both sections are as long as the layout says
together_length : (bytes constants : List ℕ) → length (bytes_together bytes constants) ≡ bytes_length (length bytes) (length constants)
together_length bytes [] = refl
together_length bytes (b ∷ constants) =
    rw (length-append, length-append, length-replicate, together (length bytes) (length constants)) (omega arith)

-- where the constants begin
constants_aligned : (n : ℕ) → (data_start + round_up_to_word n) % 4 ≡ 0
constants_aligned n = omega arith

constants_near_end : (d c : ℕ) → data_start + round_up_to_word d < data_start + bytes_length d c + 4
constants_near_end d c = omega (arith, data_within d c)

module _ (lines : List Line) (fine : AreFine (whole_of lines) nothing_yet lines) where
  bounded : IsBounded (whole_of lines).layout
  bounded = record { code = all_code_fits (whole_of lines) nothing_yet lines fine (omega arith); bytes = all_bytes_fit (whole_of lines) nothing_yet lines fine (omega arith) }

  table : IsTable (whole_of lines).layout (whole_of lines).layout (whole_of lines).labels
  table = table_lines (whole_of lines).layout (whole_of lines) nothing_yet lines bounded (later_same (whole_of lines).layout) fine (record { names = tt; order = tt; reached = tt })

  is_whole : IsWhole (whole_of lines)
  is_whole = record { code = bounded.code; reached = table.reached }

  code_is : length (code_of_lines (whole_of lines) nothing_yet lines) ≡ (whole_of lines).layout.instructions
  code_is = omega (arith, code_length (whole_of lines) nothing_yet lines fine)

  data_is : length (bytes_of_lines Data (whole_of lines) nothing_yet lines) ≡ (whole_of lines).layout.data_bytes
  data_is = omega (arith, data_length (whole_of lines) nothing_yet lines fine)

  constants_is : length (bytes_of_lines Constants (whole_of lines) nothing_yet lines) ≡ (whole_of lines).layout.constant_bytes
  constants_is = omega (arith, constants_length (whole_of lines) nothing_yet lines fine)

  bytes_is : length (image_of (whole_of lines) lines).bytes ≡ bytes_length (whole_of lines).layout.data_bytes (whole_of lines).layout.constant_bytes
  bytes_is =
      together_length (bytes_of_lines Data (whole_of lines) nothing_yet lines) (bytes_of_lines Constants (whole_of lines) nothing_yet lines)
      ∙ (ap (λ d. bytes_length d (length (bytes_of_lines Constants (whole_of lines) nothing_yet lines))) data_is
      ∙ ap (bytes_length (whole_of lines).layout.data_bytes) constants_is)

  good : AllByRecursion (IsGood (image_of (whole_of lines) lines).symbols) (image_of (whole_of lines) lines).code
  good = code_good (whole_of lines) nothing_yet lines is_whole fine

  pub lines_image : IsImage (image_of (whole_of lines) lines)
  lines_image = record {
    code_fits = omega (arith, code_is, bounded.code);
    bytes_fit = omega (arith, bytes_is, bounded.bytes);
    operands = all_then _ InRange _ (λ ins h. h.operands) good;
    targets = all_then _ (λ ins. IfSome (label_of ins) (IsThere (image_of (whole_of lines) lines).symbols)) _ (λ ins h. h.target) good;
    names = table.names;
    order = table.order;
    places = rw (code_is, bytes_is) (labels_in_image (whole_of lines).layout (whole_of lines).labels bounded table.reached);
    cp_aligned = constants_aligned (whole_of lines).layout.data_bytes;
    cp_in_data = omega arith;
    cp_near_end = rw bytes_is (constants_near_end (whole_of lines).layout.data_bytes (whole_of lines).layout.constant_bytes);
  }

pub faultless_lines : (ls : List (List ℕ)) → first_fault (whole_of (map line_of ls)) nothing_yet 1 (map line_of ls) ≡ None → IsImage (image_of (whole_of (map line_of ls)) (map line_of ls))
faultless_lines ls h =
    let lines = map line_of ls in
    lines_image lines (all_fine (whole_of lines) nothing_yet lines (all_sound ls) (absent lines h))

pub outcome_none : (o : Option (ℕ × AsmKind)) (image taken : ImageRec) → outcome o image ≡ Image taken → (o ≡ None) × (image ≡ taken)
outcome_none None image taken h = let is : image ≡ taken = cc in (refl, is)
outcome_none (Some fault) image taken h = cc

pub faultless_text : (text : List ℕ) (image : ImageRec) → assembled text ≡ Image image → IsImage image
faultless_text text image h =
    let none = outcome_none (first_fault (whole_of (map line_of (lines_of text))) nothing_yet 1 (map line_of (lines_of text))) _ image h in
    subst IsImage none.1 (faultless_lines (lines_of text) none.0)
