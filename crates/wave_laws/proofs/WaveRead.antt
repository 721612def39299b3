-- The lines of a wave are read as this wave.
use Rattle.std.proofs.Common.{◌≡◌, ℕ, ◌-◌, ◌<◌, Bool, true, false, ◌==◌, List, [], ◌∷◌, ◌++◌, Some, refl, sym, ap, ◌∙◌, arith}
use Rattle.std.specs.Prelude.{if◌then◌else◌}
use Rattle.std.specs.List.{AllByRecursion}
use Rattle.std.proofs.lemmas.Bool.Decides.{nat_tests}
use Rattle.sys_plan.specs.Plan.{numbers_from}
use Rattle.wave_model.specs.declared.change.WaveChange.{WaveChange}
use Rattle.wave_model.specs.Lines.{first_line, nodes_lines, end_of_definitions, slot_line}
use Rattle.wave_model.specs.Waves.{WaveRec, change_lines, all_change_lines, wave_lines}
use Rattle.wave_model.specs.Reads.{Begin, Nodes, Declared, Changes, count_of_pins}
use Rattle.wave_model.specs.Form.{IsWave, IsChange}
use Rattle.wave_laws.proofs.ReadOver.{read_over, over_none, over_next}
use Rattle.wave_laws.proofs.NodeNumbers.{AreNodes}
use Rattle.wave_laws.proofs.Declarations.{begin_read, nodes_read, end_read, slot_0_read}
use Rattle.wave_laws.proofs.ChangesRead.{IsAt, so_far, follow_start, changes_read}

pub nodes_of_wave : (wave : WaveRec) → IsWave wave → AreNodes wave.nodes
nodes_of_wave wave h = record { few = h.few_nodes; small = h.numbers; ascending = h.ascending }

-- the lines up to the end of the definitions
pub declarations_read : (wave : WaveRec) (rest : List (List ℕ)) → IsWave wave
    → read_over Begin (first_line ∷ (nodes_lines 0 wave.nodes ++ (end_of_definitions ∷ rest))) ≡ read_over (Declared wave.nodes) rest
declarations_read wave rest h =
    over_next Begin (Nodes []) first_line (nodes_lines 0 wave.nodes ++ (end_of_definitions ∷ rest)) begin_read
    ∙ nodes_read [] wave.nodes (end_of_definitions ∷ rest) (nodes_of_wave wave h)
    ∙ over_next (Nodes wave.nodes) (Declared wave.nodes) end_of_definitions rest (end_read wave.nodes)

-- a wave with no slot has no changes
pub no_changes : (wave : WaveRec) → wave.last ≡ 0 → (changes : List WaveChange) → AllByRecursion (IsChange wave) changes → changes ≡ []
no_changes wave z [] h = refl
no_changes wave z (change ∷ changes) h = absurd (omega (arith, z, h.0.slot))

start_at : (wave : WaveRec) → IsWave wave → 0 < wave.last → IsAt wave 0 0 wave.changes
start_at wave h some = record {
  follow = follow_start wave.changes h.in_order;
  few = λ z. omega arith;
  first = λ z. h.first (λ e. omega (arith, e, some)) ∙ ap (numbers_from 0) (less_none (count_of_pins wave));
  later = λ n. absurd (n refl);
  before = some;
}
  where
    less_none : (n : ℕ) → n ≡ n - 0
    less_none n = omega arith

-- the lines after those of the definitions
rest_read : (wave : WaveRec) → IsWave wave → read_over (Declared wave.nodes) (all_change_lines wave ++ slot_line wave.last ∷ []) ≡ Some (Changes wave 0)
rest_read wave h = by (wave.last == 0) refl
  where
    by : (t : Bool) → (wave.last == 0) ≡ t
        → read_over (Declared wave.nodes) ((if t then [] else slot_line 0 ∷ change_lines 0 wave.changes) ++ slot_line wave.last ∷ []) ≡ Some (Changes wave 0)
    by true e =
        let zero : wave.last ≡ 0 = grind (arith, nat_tests) in
        let none = no_changes wave zero wave.changes h.changes in
        ap (λ k. read_over (Declared wave.nodes) (slot_line k ∷ [])) zero
        ∙ over_next (Declared wave.nodes) (Changes (so_far wave [] 0) 0) (slot_line 0) [] (slot_0_read wave.nodes)
        ∙ over_none (Changes (so_far wave [] 0) 0)
        ∙ (λ i. Some (Changes (so_far wave (sym none i) (sym zero i)) 0))
    by false e =
        let some : 0 < wave.last = grind (arith, nat_tests) in
        over_next (Declared wave.nodes) (Changes (so_far wave [] 0) 0) (slot_line 0) (change_lines 0 wave.changes ++ slot_line wave.last ∷ []) (slot_0_read wave.nodes)
        ∙ changes_read wave [] 0 0 wave.changes h.last h.changes (start_at wave h some)

pub wave_read : (wave : WaveRec) → IsWave wave → read_over Begin (wave_lines wave) ≡ Some (Changes wave 0)
wave_read wave h = declarations_read wave (all_change_lines wave ++ slot_line wave.last ∷ []) h ∙ rest_read wave h
