-- Reading a pin back from changes: what they leave it at, where it was at a value before them.
use Rattle.std.proofs.Common.{◌≡◌, ◌<◌, ◌≤◌, Bool, true, false, List, [], ◌∷◌, ◌++◌, length, get_or, map, filter, refl, ap, ◌∙◌, inl, inr}
use mathlib.Core.Logic.{◌⊎◌}
use Rattle.std.specs.List.{AllByRecursion}
use Rattle.std.proofs.lemmas.Bool.{cases_Bool, and_from, and_left, and_right, eq-eqb, ne_eqb, le-leb, lt-leb}
use Rattle.std.proofs.lemmas.List.{map-append}
use Rattle.std.proofs.lemmas.List.Elements.{filter-append}
use Rattle.xs_base.specs.Numbers.{Slot, Word, Position, PortNumber}
use Rattle.pin_scripts.specs.declared.line.Change.{Change}
use Rattle.pin_scripts.specs.Script.{NodeNumber, is_of_pin, change_of, changes_of, is_at_most, value_after}
use Rattle.sys_plan.specs.Plan.{AreAscending}
use Rattle.wave_model.specs.declared.change.WaveChange.{WaveChange}
use Rattle.wave_model.specs.Waves.{pin_line}
use Rattle.level_laws.proofs.Numbers.{names_one}

value_on : (value : Word) (changes more : List Change) → value_after value (changes ++ more) ≡ value_after (value_after value changes) more
value_on value [] more = refl
value_on value (change ∷ changes) more = value_on change.value changes more

-- a pin of the node at a position, among nodes with these ascending numbers, at the end of a slot
module _ (numbers : List NodeNumber) (ascending : AreAscending numbers) (n : Position) (within : n < length numbers) (port : PortNumber) (slot : Slot) where
  abbrev is_ours : WaveChange → Bool
  is_ours change = is_of_pin (get_or numbers n 0) port (pin_line numbers change)

  -- those of its changes that have come by the slot
  abbrev come : List WaveChange → List Change
  come changes = filter (is_at_most slot) (changes_of (map (pin_line numbers) changes) (get_or numbers n 0) port)

  -- the value that they leave it at
  abbrev pub left_at : Word → List WaveChange → Word
  left_at value changes = value_after value (come changes)

  come_on : (changes more : List WaveChange) → come (changes ++ more) ≡ come changes ++ come more
  come_on changes more =
      let line = pin_line numbers in
      let ours = is_of_pin (get_or numbers n 0) port in
      ap (λ lines. filter (is_at_most slot) (map change_of (filter ours lines))) (map-append line changes more)
      ∙ ap (λ lines. filter (is_at_most slot) (map change_of lines)) (filter-append ours (map line changes) (map line more))
      ∙ ap (filter (is_at_most slot)) (map-append change_of (filter ours (map line changes)) (filter ours (map line more)))
      ∙ filter-append (is_at_most slot) (map change_of (filter ours (map line changes))) (map change_of (filter ours (map line more)))

  pub left_on : (value : Word) (changes more : List WaveChange) → left_at value (changes ++ more) ≡ left_at (left_at value changes) more
  left_on value changes more = ap (value_after value) (come_on changes more) ∙ value_on value (come changes) (come more)

  -- ---- What a change says of the pin at the end of the slot

  -- nothing: it is of another node or port, or of a later slot
  abbrev pub IsElse : WaveChange → Type 0
  IsElse change = (change.node < length numbers) × ((change.node ≡ n → ⊥) ⊎ ((change.port ≡ port → ⊥) ⊎ (slot < change.slot)))

  pass_by : (value : Word) (change : WaveChange) (changes : List WaveChange) → IsElse change → left_at value (change ∷ changes) ≡ left_at value changes
  pass_by value change changes is = by_case is.1
    where
      not_ours : is_ours change ≡ false → left_at value (change ∷ changes) ≡ left_at value changes
      not_ours e = rw e refl

      not_come : slot < change.slot → (is_ours change ≡ true) ⊎ (is_ours change ≡ false) → left_at value (change ∷ changes) ≡ left_at value changes
      not_come later (inl ours) = rw (ours, lt-leb change.slot slot later) refl
      not_come later (inr other) = not_ours other

      other_node : (change.node ≡ n → ⊥) → get_or numbers change.node 0 ≡ get_or numbers n 0 → ⊥
      other_node other same = other (names_one numbers change.node n ascending is.0 within same)

      by_case : (change.node ≡ n → ⊥) ⊎ ((change.port ≡ port → ⊥) ⊎ (slot < change.slot)) → left_at value (change ∷ changes) ≡ left_at value changes
      by_case (inl other) = not_ours (and_left _ _ (ne_eqb (get_or numbers change.node 0) (get_or numbers n 0) (other_node other)))
      by_case (inr (inl other)) = not_ours (and_right _ _ (ne_eqb change.port port other))
      by_case (inr (inr later)) = not_come later (cases_Bool (is_ours change))

  pub left_as_is : (value : Word) (changes : List WaveChange) → AllByRecursion IsElse changes → left_at value changes ≡ value
  left_as_is value [] h = refl
  left_as_is value (change ∷ changes) h = pass_by value change changes h.0 ∙ left_as_is value changes h.1

  -- or its value
  pub left_by : (value : Word) (change : WaveChange) → change.node ≡ n → change.port ≡ port → change.slot ≤ slot → left_at value (change ∷ []) ≡ change.value
  left_by value change node is_port come_by =
      let ours : is_ours change ≡ true = and_from _ _ (eq-eqb (get_or numbers change.node 0) (get_or numbers n 0) (ap (λ k. get_or numbers k 0) node)) (eq-eqb change.port port is_port) in
      rw (ours, le-leb change.slot slot come_by) refl
