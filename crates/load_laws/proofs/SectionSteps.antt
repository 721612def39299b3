-- A whole section of a source, which begins, has its own lines and ends.
use Rattle.std.proofs.Common.{◌≡◌, ℕ, suc, ◌+◌, ◌<◌, true, false, nat_le, List, [], ◌∷◌, ◌++◌, length, refl, sym, ap, ◌∙◌, arith, append_assoc, append-nil}
use Rattle.std.specs.Prelude.{Option, Some, None}
use Rattle.std.specs.List.{list_any}
use Rattle.std.proofs.lemmas.Bool.{or_parts, not_from_true, cond-true, cond-false}
use Rattle.xs_text.specs.Bytes.{all_allowed}
use Rattle.xs_text.specs.Words.{words_of_line}
use Rattle.system_model.specs.declared.frame_line.FrameLine.TheVariants.{Section}
use Rattle.system_model.specs.declared.frame_line.GivenNode.{GivenNode}
use Rattle.system_model.specs.declared.frame_line.LinkLine.{LinkLine}
use Rattle.system_model.specs.declared.frame_line.SectionKind.TheVariants.{Source}
use Rattle.system_model.specs.Bits.{BitRec}
use Rattle.system_model.specs.FrameLines.{frame_line, is_end}
use Rattle.system_model.specs.Frame.{Given, Own, End, SectionText, has_node, has_section, says, first_that_holds, tests, given_with, frame_from}
use Rattle.load_laws.proofs.Ring.{within}
use Rattle.load_laws.proofs.Taken.{NoFault, taken, form_taken, says_its_form}

module _ (nodes : List GivenNode) (links : List LinkLine) (bits : List BitRec) where
  -- these, some sections, and what is being read
  abbrev with_sections : List SectionText → Option SectionText → Given
  with_sections sections reading =
      record { edition = Some 1; nodes = nodes; links = links; bits = bits; wires = []; steps = []; sections = sections; reading = reading }

  -- the section of a source
  abbrev source_of : ℕ → ℕ → List (List ℕ) → SectionText
  source_of i line lines = record { kind = Source i; line = line; lines = lines }

  -- the line that begins a source passes each test
  begin_has_none : (sections : List SectionText) (i : ℕ) → i < 16 → has_node nodes i ≡ true → has_section sections (Source i) ≡ false → NoFault (with_sections sections None) (Section (Source i))
  begin_has_none sections i h is free = record {
    range = not_from_true (nat_le i 99) (within i 99 h (omega arith));
    named = not_from_true _ is;
    once = free;
    id_once = refl;
    to_other = refl;
    end_once = refl;
    bit_once = refl;
    two_nodes = refl;
    one_width = refl;
    pin_once = refl;
    few_wires = refl;
    few = refl;
  }

  -- a line that does not end the section is its own
  own_line : (sections : List SectionText) (i line m : ℕ) (before : List (List ℕ)) (l : List ℕ) (ls : List (List ℕ)) → is_end l ≡ false
      → frame_from m (with_sections sections (Some (source_of i line before))) (l ∷ ls)
      ≡ frame_from (m + 1) (with_sections sections (Some (source_of i line (before ++ l ∷ [])))) ls
  own_line sections i line m before l ls e =
      let given = with_sections sections (Some (source_of i line before)) in
      let said : says given l ≡ Own = cond-false (is_end l) End Own e in
      taken m given _ l ls (ap (λ s. first_that_holds (tests given (all_allowed l) s)) said) (ap (λ s. given_with m l s given) said)

  -- the line that ends it makes it one section more
  end_line : (sections : List SectionText) (i line m : ℕ) (own : List (List ℕ)) (l : List ℕ) (ls : List (List ℕ)) → is_end l ≡ true → all_allowed l ≡ true
      → frame_from m (with_sections sections (Some (source_of i line own))) (l ∷ ls)
      ≡ frame_from (m + 1) (with_sections (sections ++ source_of i line own ∷ []) None) ls
  end_line sections i line m own l ls e allowed =
      let given = with_sections sections (Some (source_of i line own)) in
      let said : says given l ≡ End = cond-true (is_end l) End Own e in
      taken m given _ l ls
      (ap (λ s. first_that_holds (tests given (all_allowed l) s)) said ∙ ap (λ b. first_that_holds (tests given b End)) allowed)
      (ap (λ s. given_with m l s given) said)

  -- lines none of which ends it are all its own
  own_lines : (sections : List SectionText) (i line m : ℕ) (before own ls : List (List ℕ)) → list_any is_end own ≡ false
      → frame_from m (with_sections sections (Some (source_of i line before))) (own ++ ls)
      ≡ frame_from (m + length own) (with_sections sections (Some (source_of i line (before ++ own)))) ls
  own_lines sections i line m before [] ls h =
      let same : m ≡ m + 0 = omega arith in
      ap (λ k. frame_from k (with_sections sections (Some (source_of i line before))) ls) same
      ∙ ap (λ (b : List (List ℕ)). frame_from (m + 0) (with_sections sections (Some (source_of i line b))) ls) (sym (append-nil before))
  own_lines sections i line m before (l ∷ own) ls h =
      let parts = or_parts (is_end l) (list_any is_end own) h in
      let on : m + 1 + length own ≡ m + suc (length own) = omega arith in
      own_line sections i line m before l (own ++ ls) parts.0
      ∙ own_lines sections i line (m + 1) (before ++ l ∷ []) own ls parts.1
      ∙ ap (λ k. frame_from k (with_sections sections (Some (source_of i line ((before ++ l ∷ []) ++ own)))) ls) on
      ∙ ap (λ (b : List (List ℕ)). frame_from (m + suc (length own)) (with_sections sections (Some (source_of i line b))) ls) (append_assoc before (l ∷ []) own)

  -- a source of node i, which has none yet, is one section more
  pub section_step : (sections : List SectionText) (i m next : ℕ) (first last : List ℕ) (own ls : List (List ℕ)) → i < 16
      → has_node nodes i ≡ true → has_section sections (Source i) ≡ false
      → all_allowed first ≡ true → frame_line 1 (words_of_line first) ≡ Some (Section (Source i))
      → list_any is_end own ≡ false → is_end last ≡ true → all_allowed last ≡ true → m + 2 + length own ≡ next
      → frame_from m (with_sections sections None) (first ∷ ((own ++ last ∷ []) ++ ls))
      ≡ frame_from next (with_sections (sections ++ source_of i m own ∷ []) None) ls
  section_step sections i m next first last own ls h is free allowed form none ends end_allowed e =
      let on : m + 1 + length own + 1 ≡ next = omega arith in
      form_taken m (with_sections sections None) (with_sections sections (Some (source_of i m []))) first ((own ++ last ∷ []) ++ ls) (Section (Source i)) allowed
      (says_its_form (words_of_line first) _ form) (begin_has_none sections i h is free) refl
      ∙ ap (λ (rest : List (List ℕ)). frame_from (m + 1) (with_sections sections (Some (source_of i m []))) rest) (append_assoc own (last ∷ []) ls)
      ∙ own_lines sections i m (m + 1) [] own (last ∷ ls) none
      ∙ end_line sections i m (m + 1 + length own) own last ls ends end_allowed
      ∙ ap (λ k. frame_from k (with_sections (sections ++ source_of i m own ∷ []) None) ls) on
