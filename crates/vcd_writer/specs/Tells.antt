-- A wave text in the making.
use Rattle.std.specs.Prelude.{ℕ, ◌≡◌, List, [], ◌∷◌, ◌++◌, map}
use Rattle.xs_base.specs.Numbers.{Slot, Word}
use Rattle.xs_model.specs.Record.{NodeRec}
use Rattle.wave_model.specs.declared.change.WaveChange.{WaveChange}
use Rattle.wave_model.specs.Waves.{change_lines, text_of_lines}

-- the text so far, and the slot of its last slot line
pub record TextRec : Type 0 where
  pub text : List ℕ
  pub slot : Slot

-- the slot of the last of some changes, where it was this before them
abbrev pub slot_after : Slot → List WaveChange → Slot
slot_after slot [] = slot
slot_after slot (change ∷ changes) = slot_after change.slot changes

-- the text goes on with these changes
pub record Tells (before after : TextRec) (changes : List WaveChange) : Type 0 where
  pub text : after.text ≡ before.text ++ text_of_lines (change_lines before.slot changes)
  pub slot : after.slot ≡ slot_after before.slot changes

-- the levels of the pins of nodes, by node and port
abbrev pub levels_of : List NodeRec → List (List Word)
levels_of nodes = map (λ (node : NodeRec). node.levels) nodes
