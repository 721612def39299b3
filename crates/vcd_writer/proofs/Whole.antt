-- The text of a whole wave, of its parts.
use Rattle.std.proofs.Common.{◌≡◌, ℕ, ◌<◌, ◌≤◌, List, [], ◌∷◌, ◌++◌, sym, ◌∙◌, arith, append_assoc, append-nil, eq-eqb, ne_eqb}
use Rattle.std.specs.Prelude.{◌==◌}
use Rattle.std.proofs.lemmas.Bool.{cond-false, cond-true}
use Rattle.xs_base.specs.Numbers.{Slot}
use Rattle.sys_plan.specs.Plan.{PlanRec, node_numbers}
use Rattle.wave_model.specs.Lines.{first_line, nodes_lines, end_of_definitions, slot_line}
use Rattle.wave_model.specs.Waves.{ended, text_of_lines, change_lines, all_change_lines}
use Rattle.wave_model.specs.Runs.{changes_before, wave_of_run, wave_text}
use Rattle.vcd_writer.proofs.Texts.{lines-append, begun_more}

-- the lines of the changes, after a text
unfoldable pub changes_text : PlanRec → Slot → List ℕ
changes_text plan limit = text_of_lines (all_change_lines (wave_of_run plan limit))

pub some_slots : (plan : PlanRec) (limit : Slot) (text x y : List ℕ) → 0 < limit → x ≡ text ++ ended (slot_line 0)
    → y ≡ x ++ text_of_lines (change_lines 0 (changes_before plan limit))
    → y ≡ text ++ changes_text plan limit
unfolding changes_text
some_slots plan limit text x y some p q =
    let lines = cond-false (limit == 0) [] (slot_line 0 ∷ change_lines 0 (changes_before plan limit)) (ne_eqb limit 0 (omega arith)) in
    begun_more text (ended (slot_line 0)) _ x y p q ∙ (λ i. text ++ text_of_lines (sym lines i))

pub no_slots : (plan : PlanRec) (limit : Slot) (text : List ℕ) → limit ≤ 0 → text ≡ text ++ changes_text plan limit
unfolding changes_text
no_slots plan limit text none =
    let lines = cond-true (limit == 0) [] (slot_line 0 ∷ change_lines 0 (changes_before plan limit)) (eq-eqb limit 0 (omega arith)) in
    sym (append-nil text) ∙ (λ i. text ++ text_of_lines (sym lines i))

pub whole : (plan : PlanRec) (limit : Slot) (text x y z : List ℕ) → text ≡ []
    → x ≡ text ++ text_of_lines (first_line ∷ (nodes_lines 0 (node_numbers plan) ++ end_of_definitions ∷ [])) → y ≡ x ++ changes_text plan limit
    → z ≡ y ++ ended (slot_line limit) → z ≡ wave_text plan limit
unfolding changes_text
whole plan limit text x y z empty p q r =
    let nodes = nodes_lines 0 (node_numbers plan) in
    let changes = all_change_lines (wave_of_run plan limit) in
    let declared : List (List ℕ) = first_line ∷ (nodes ++ end_of_definitions ∷ []) in
    let last : List (List ℕ) = slot_line limit ∷ [] in
    begun_more text _ _ y z (begun_more text _ _ x y p q) r
    ∙ (λ i. empty i ++ ((text_of_lines declared ++ text_of_lines changes) ++ sym (append-nil (ended (slot_line limit))) i))
    ∙ append_assoc (text_of_lines declared) (text_of_lines changes) (text_of_lines last)
    ∙ (λ i. text_of_lines declared ++ sym (lines-append changes last) i)
    ∙ sym (lines-append declared (changes ++ last))
    ∙ (λ i. text_of_lines (first_line ∷ append_assoc nodes (end_of_definitions ∷ []) (changes ++ last) i))
