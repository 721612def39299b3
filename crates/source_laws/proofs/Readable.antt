-- The instructions of an image can be read: their labels' names lead to their places.
use Rattle.std.proofs.Common.{◌≡◌, ℕ, ◌≤◌, false, List, [], ◌∷◌, length, sym, ap, ◌∙◌, subst, arith, IsTrue}
use Rattle.std.specs.Prelude.{Option, Some, None, IfSome, option_to_list, option_and_then}
use Rattle.std.specs.List.{AllByRecursion, list_any}
use Rattle.xs_instructions.specs.declared.instr.Instr.{Instr}
use Rattle.xs_instructions.specs.Rows.{parts_of}
use Rattle.xs_instructions.specs.Operands.{row_of, values_of}
use Rattle.xs_instructions.specs.Instr.{InRange, label_of}
use Rattle.xs_instructions.specs.Find.{build}
use Rattle.xs_instructions.specs.Code.{place_address}
use Rattle.xs_instructions.specs.Image.{ImageRec, IsImage, Symbol, has_symbol_at}
use Rattle.source_model.specs.Layout.{Sofar, place_of}
use Rattle.source_model.specs.Source.{instruction_in, is_missing}
use Rattle.source_laws.proofs.Places.{each}
use Rattle.source_laws.specs.LabelValues.{label_values}
use Rattle.source_laws.proofs.LabelValues.{has_labels, in_range_parts}
use Rattle.source_laws.proofs.Labelled.{labelled_within}
use Rattle.source_laws.proofs.PartsRead.{HasName, amounts_at, name_of_place}
use Rattle.source_laws.proofs.OperandsRead.{StandsAt, values_back, none_missing}
use Rattle.source_laws.proofs.Stands.{labels_of, text_place, first_name_leads, first_name_named}
use Rattle.source_laws.proofs.ItemLines.{IsReadable}

-- what an instruction's line gives, by the labels of all lines
pub record IsGiven (symbols : List Symbol) (whole : Sofar) (ins : Instr) : Type 0 where
  pub given : instruction_in whole (row_of ins) (amounts_at symbols (parts_of (row_of ins)) (values_of ins)) ≡ Some ins
  pub present : list_any (is_missing whole) (amounts_at symbols (parts_of (row_of ins)) (values_of ins)) ≡ false

module _ (image : ImageRec) (h : IsImage image) (whole : Sofar) (labels : whole.labels ≡ labels_of image.cp_at image.symbols)
    (back : (ins : Instr) → InRange ins → build (row_of ins) (values_of ins) ≡ Some ins) where
  abbrev Leads : ℕ → Type 0
  Leads p = IsTrue (has_symbol_at image.symbols (place_address p))

  all_of_option : (o : Option ℕ) → IfSome o Leads → AllByRecursion Leads (option_to_list o)
  all_of_option None k = tt
  all_of_option (Some p) k = (k, tt)

  leads : (ins : Instr) → IfSome (label_of ins) Leads → AllByRecursion Leads (label_values (parts_of (row_of ins)) (values_of ins))
  leads ins k = subst (AllByRecursion Leads) (sym (has_labels ins)) (all_of_option (label_of ins) k)

  named : (p : ℕ) → Leads p → HasName image.symbols p
  named p k = first_name_named image.cp_at image.symbols (place_address p) h.names k

  stands : (p : ℕ) → Leads p → StandsAt image.symbols whole p
  stands p k =
      let short : p ≤ length image.code = labelled_within _ _ _ p image.symbols h.places k in (
        ap (λ l. place_of l (name_of_place image.symbols p)) labels
            ∙ (first_name_leads image.cp_at image.symbols (place_address p) h.names k ∙ ap (λ x. Some x) (text_place image.cp_at p)),
        omega (arith, short, h.code_fits),
      )

  pub is_readable : (ins : Instr) → InRange ins → IfSome (label_of ins) Leads → IsReadable image.symbols ins
  is_readable ins r k = record {
    in_range = r;
    named = each Leads (HasName image.symbols) named (label_values (parts_of (row_of ins)) (values_of ins)) (leads ins k);
  }

  pub is_given : (ins : Instr) → InRange ins → IfSome (label_of ins) Leads → IsGiven image.symbols whole ins
  is_given ins r k =
      let parts = parts_of (row_of ins) in
      let all = each Leads (StandsAt image.symbols whole) stands (label_values parts (values_of ins)) (leads ins k) in
      record {
        given = ap (λ o. option_and_then (build (row_of ins)) o) (values_back image.symbols whole parts (values_of ins) (in_range_parts ins r) all) ∙ back ins r;
        present = none_missing image.symbols whole parts (values_of ins) all;
      }

  all_readable : (code : List Instr) → AllByRecursion InRange code → AllByRecursion (λ ins. IfSome (label_of ins) Leads) code → AllByRecursion (IsReadable image.symbols) code
  all_readable [] r k = tt
  all_readable (ins ∷ code) r k = (is_readable ins r.0 k.0, all_readable code r.1 k.1)

  all_given : (code : List Instr) → AllByRecursion InRange code → AllByRecursion (λ ins. IfSome (label_of ins) Leads) code → AllByRecursion (IsGiven image.symbols whole) code
  all_given [] r k = tt
  all_given (ins ∷ code) r k = (is_given ins r.0 k.0, all_given code r.1 k.1)

  pub code_readable : AllByRecursion (IsReadable image.symbols) image.code
  code_readable = all_readable image.code h.operands h.targets

  pub code_given : AllByRecursion (IsGiven image.symbols whole) image.code
  code_given = all_given image.code h.operands h.targets
