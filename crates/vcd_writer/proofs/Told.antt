-- Changes told one after the other.
use Rattle.std.proofs.Common.{◌≡◌, ℕ, zero, suc, ◌+◌, ◌<◌, List, [], ◌∷◌, ◌++◌, length, get_or, take, refl, ap, sym, subst, ◌∙◌, arith, append_assoc, append-nil}
use Rattle.xs_base.specs.Numbers.{Slot, Word, Position, PortNumber}
use Rattle.wave_model.specs.declared.change.WaveChange.{WaveChange}
use Rattle.wave_model.specs.Waves.{change_lines, slot_lines, text_of_lines}
use Rattle.wave_model.specs.Lines.{change_line}
use Rattle.wave_model.specs.Runs.{change_in, port_changes}
use Rattle.vcd_writer.specs.Tells.{TextRec, Tells, slot_after}
use Rattle.vcd_writer.proofs.Texts.{lines-append}

-- the lines of some changes, and then those of others
lines_more : (slot : Slot) (changes others : List WaveChange)
    → change_lines slot (changes ++ others) ≡ change_lines slot changes ++ change_lines (slot_after slot changes) others
lines_more slot [] others = refl
lines_more slot (change ∷ changes) others =
    ap (λ lines. slot_lines slot change.slot ++ (change_line change ∷ lines)) (lines_more change.slot changes others)
    ∙ sym (append_assoc (slot_lines slot change.slot) (change_line change ∷ change_lines change.slot changes) (change_lines (slot_after slot (change ∷ changes)) others))

after_more : (slot : Slot) (changes others : List WaveChange) → slot_after slot (changes ++ others) ≡ slot_after (slot_after slot changes) others
after_more slot [] others = refl
after_more slot (change ∷ changes) others = after_more change.slot changes others

pub tells_none : (text : TextRec) → Tells text text []
tells_none text = record { text = sym (append-nil text.text); slot = refl }

pub tells_more : (text between after : TextRec) (changes others : List WaveChange)
    → Tells text between changes → Tells between after others → Tells text after (changes ++ others)
tells_more text between after changes others first then =
    let lines = change_lines text.slot changes in
    let last = change_lines (slot_after text.slot changes) others in
    record {
      text =
          then.text
          ∙ (λ i. first.text i ++ text_of_lines (change_lines (first.slot i) others))
          ∙ append_assoc text.text (text_of_lines lines) (text_of_lines last)
          ∙ (λ i. text.text ++ sym (ap text_of_lines (lines_more text.slot changes others) ∙ lines-append lines last) i);
      slot = then.slot ∙ ap (λ slot. slot_after slot others) first.slot ∙ sym (after_more text.slot changes others);
    }

-- ---- Of one node

module _ (slot : Slot) (node : Position) where
  -- the changes of the first pins, and of one more
  port_more : (port n : PortNumber) (before after : List Word) → n < length before → n < length after
      → port_changes slot node port (take (n + 1) before) (take (n + 1) after)
      ≡ port_changes slot node port (take n before) (take n after) ++ change_in slot node (port + n) (get_or before n 0) (get_or after n 0)
  port_more port n [] after here also = absurd (omega arith)
  port_more port n (b ∷ before) [] here also = absurd (omega arith)
  port_more port zero (b ∷ before) (a ∷ after) here also =
      let same : port + 0 ≡ port = omega arith in
      append-nil (change_in slot node port b a) ∙ (λ i. change_in slot node (sym same i) b a)
  port_more port (suc n) (b ∷ before) (a ∷ after) here also =
      let next : suc n + 1 ≡ suc (n + 1) = omega arith in
      let same : port + 1 + n ≡ port + suc n = omega arith in
      let more = port_more (port + 1) n before after (omega arith) (omega arith) in
      let first = change_in slot node port b a in
      let others = port_changes slot node (port + 1) (take n before) (take n after) in
      (λ i. port_changes slot node port (take (next i) (b ∷ before)) (take (next i) (a ∷ after)))
      ∙ (λ i. first ++ more i)
      ∙ sym (append_assoc first others (change_in slot node (port + 1 + n) (get_or before n 0) (get_or after n 0)))
      ∙ (λ i. (first ++ others) ++ change_in slot node (same i) (get_or before n 0) (get_or after n 0))

  -- after slot 0 nothing is told of levels that stay
  no_change : 0 < slot → (port : PortNumber) (level : Word) → change_in slot node port level level ≡ []
  no_change late port level = grind arith

  pub no_changes : 0 < slot → (port : PortNumber) (levels : List Word) → port_changes slot node port levels levels ≡ []
  no_changes late port [] = refl
  no_changes late port (level ∷ levels) = λ i. no_change late port level i ++ no_changes late (port + 1) levels i

-- with one pin more
pub one_pin : (slot : Slot) (node n : ℕ) (before after : List Word) (text between then : TextRec) → n < length before → n < length after
    → Tells text between (port_changes slot node 0 (take n before) (take n after))
    → Tells between then (change_in slot node n (get_or before n 0) (get_or after n 0))
    → Tells text then (port_changes slot node 0 (take (n + 1) before) (take (n + 1) after))
one_pin slot node n before after text between then here also first more =
    let same : 0 + n ≡ n = omega arith in
    let changes = port_more slot node 0 n before after here also
    ∙ (λ i. port_changes slot node 0 (take n before) (take n after) ++ change_in slot node (same i) (get_or before n 0) (get_or after n 0)) in
    subst (Tells text then) (sym changes) (tells_more text between then _ _ first more)

-- without a change
pub told_nothing : (slot : Slot) (node : ℕ) (before after : List Word) (text : TextRec) → 0 < slot → before ≡ after
    → Tells text text (port_changes slot node 0 before after)
told_nothing slot node before after text late same =
    subst (Tells text text) (sym (no_changes slot node late 0 before) ∙ (λ i. port_changes slot node 0 before (same i))) (tells_none text)
