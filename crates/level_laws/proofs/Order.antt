-- The changes of a run come in order.
use Rattle.std.proofs.Common.{◌≡◌, ◌+◌, not, ◌||◌, Bool, true, false, cond, eqb, List, [], ◌∷◌, ◌++◌, length, refl, sym, ◌∙◌, arith, inr}
use Rattle.std.specs.List.{AllByRecursion}
use Rattle.xs_base.specs.Numbers.{Slot, Word, Position, PortNumber}
use Rattle.xs_model.specs.Record.{NodeRec}
use Rattle.wave_model.specs.declared.change.WaveChange.{WaveChange}
use Rattle.wave_model.specs.Runs.{change_in, port_changes, node_changes}
use Rattle.wave_model.specs.Form.{ComesAfter, AreInOrder}
use Rattle.level_laws.proofs.Lists.{all_weaker, both_hold}
use Rattle.level_laws.proofs.Changes.{IsOf, IsIn, FitsPin, HasLevels, of_pin, of_ports, in_nodes, to_value, ports_fit}

goes_before : (change : WaveChange) (changes : List WaveChange) → AllByRecursion (ComesAfter change) changes → AreInOrder changes → AreInOrder (change ∷ changes)
goes_before change [] after order = tt
goes_before change (next ∷ changes) after order = (after.0, order)

-- those of one kind and then those of another, each of which comes after each of the first kind
module _ (P Q : WaveChange → Type 0) (after : (before change : WaveChange) → P before → Q change → ComesAfter before change) where
  pub joined : (changes more : List WaveChange) → AllByRecursion P changes → AllByRecursion Q more → AreInOrder changes → AreInOrder more → AreInOrder (changes ++ more)
  joined [] more p q order rest = rest
  joined (change ∷ []) more p q order rest = goes_before change more (all_weaker Q (ComesAfter change) (λ next. after change next p.0) more q) rest
  joined (change ∷ next ∷ changes) more p q order rest = (order.0, joined (next ∷ changes) more p.1 q order.1 rest)

-- ---- In a slot

-- the change of one pin in a slot
record IsAt (t : Slot) (n : Position) (p : PortNumber) (change : WaveChange) : Type 0 where
  slot : change.slot ≡ t
  node : change.node ≡ n
  port : change.port ≡ p

module _ (slot : Slot) where
  one_in_order : (node : Position) (port : PortNumber) (before after : Word) → AreInOrder (change_in slot node port before after)
  one_in_order node port before after = by_test (eqb slot 0 || not (eqb after before))
    where
      by_test : (test : Bool) → AreInOrder (cond test (to_value slot node port after ∷ []) [])
      by_test true = tt
      by_test false = tt

  ports_in_order : (node : Position) (port : PortNumber) (before after : List Word) → AreInOrder (port_changes slot node port before after)
  ports_in_order node port [] after = tt
  ports_in_order node port (level ∷ before) [] = tt
  ports_in_order node port (level ∷ before) (now ∷ after) =
      joined (IsAt slot node port) (IsOf slot node (port + 1))
      (λ earlier change at of. inr (at.slot ∙ sym of.slot, omega (arith, at.node, at.port, of.node, of.port)))
      (change_in slot node port level now) (port_changes slot node (port + 1) before after)
      (of_pin (IsAt slot node port) slot node port level now (record { slot = refl; node = refl; port = refl }))
      (of_ports slot node (port + 1) before after)
      (one_in_order node port level now)
      (ports_in_order node (port + 1) before after)

  pub nodes_in_order : (node : Position) (before after : List NodeRec) → AllByRecursion HasLevels after → AreInOrder (node_changes slot node before after)
  nodes_in_order node [] after has = tt
  nodes_in_order node (rec ∷ before) [] has = tt
  nodes_in_order node (rec ∷ before) (now ∷ after) has =
      let own = port_changes slot node 0 rec.levels now.levels in
      joined (λ change. IsOf slot node 0 change × FitsPin change) (IsIn slot (node + 1) (node + 1 + length after))
      (λ earlier change both is. inr (both.0.slot ∙ sym is.slot, omega (arith, both.0.node, both.1.port, is.from)))
      own (node_changes slot (node + 1) before after)
      (both_hold (IsOf slot node 0) FitsPin own (of_ports slot node 0 rec.levels now.levels) (ports_fit slot node 0 rec.levels now.levels (omega (arith, has.0.many)) has.0.fit))
      (in_nodes slot (node + 1) before after)
      (ports_in_order node 0 rec.levels now.levels)
      (nodes_in_order (node + 1) before after has.1)
