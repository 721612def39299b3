-- The changes in a slot: of which slot, node and port each of them is, and that its value fits the pin.
use Rattle.std.proofs.Common.{◌≡◌, ◌+◌, ◌<◌, ◌≤◌, ◌^◌, not, ◌||◌, eqb, List, [], ◌∷◌, length, refl, arith}
use Rattle.std.specs.List.{AllByRecursion}
use Rattle.xs_base.specs.Numbers.{Slot, Word, Position, PortNumber}
use Rattle.xs_base.specs.Ids.{port_width}
use Rattle.xs_model.specs.Record.{NodeRec}
use Rattle.xs_model.specs.Outside.{LevelsFitFrom, LevelsFit}
use Rattle.wave_model.specs.declared.change.WaveChange.{WaveChange}
use Rattle.wave_model.specs.Runs.{change_in, port_changes, node_changes}
use Rattle.level_laws.proofs.Lists.{both_all, one_all, all_weaker}

-- the change of a pin to a value in a slot
abbrev pub to_value : Slot → Position → PortNumber → Word → WaveChange
to_value slot node port value = record { slot = slot; node = node; port = port; value = value }

-- a change of a node in a slot, of its pins from one on
pub record IsOf (t : Slot) (n : Position) (p : PortNumber) (change : WaveChange) : Type 0 where
  pub slot : change.slot ≡ t
  pub node : change.node ≡ n
  pub port : p ≤ change.port

-- a change in a slot, of some nodes
pub record IsIn (t : Slot) (first end : Position) (change : WaveChange) : Type 0 where
  pub slot : change.slot ≡ t
  pub from : first ≤ change.node
  pub to : change.node < end

-- a change of a pin that every node has, to a value that fits it
pub record FitsPin (change : WaveChange) : Type 0 where
  pub port : change.port < 29
  pub value : change.value < 2 ^ port_width change.port

-- a node notes the level of each pin
pub record HasLevels (rec : NodeRec) : Type 0 where
  pub many : length rec.levels ≡ 29
  pub fit : LevelsFit rec.levels

-- at most one change of a pin
pub of_pin : (P : WaveChange → Type 0) (slot : Slot) (node : Position) (port : PortNumber) (before after : Word)
    → P (to_value slot node port after) → AllByRecursion P (change_in slot node port before after)
of_pin P slot node port before after h = one_all P (eqb slot 0 || not (eqb after before)) (to_value slot node port after) h

module _ (slot : Slot) where
  pub of_ports : (node : Position) (port : PortNumber) (before after : List Word) → AllByRecursion (IsOf slot node port) (port_changes slot node port before after)
  of_ports node port [] after = tt
  of_ports node port (level ∷ before) [] = tt
  of_ports node port (level ∷ before) (now ∷ after) =
      both_all (IsOf slot node port) (change_in slot node port level now) (port_changes slot node (port + 1) before after)
      (of_pin (IsOf slot node port) slot node port level now (record { slot = refl; node = refl; port = omega arith }))
      (all_weaker (IsOf slot node (port + 1)) (IsOf slot node port) (λ change of. record { slot = of.slot; node = of.node; port = omega (arith, of.port) })
      (port_changes slot node (port + 1) before after) (of_ports node (port + 1) before after))

  pub in_nodes : (node : Position) (before after : List NodeRec) → AllByRecursion (IsIn slot node (node + length after)) (node_changes slot node before after)
  in_nodes node [] after = tt
  in_nodes node (rec ∷ before) [] = tt
  in_nodes node (rec ∷ before) (now ∷ after) =
      let to = node + length (now ∷ after) in
      both_all (IsIn slot node to) (port_changes slot node 0 rec.levels now.levels) (node_changes slot (node + 1) before after)
      (all_weaker (IsOf slot node 0) (IsIn slot node to) (λ change of. record { slot = of.slot; from = omega (arith, of.node); to = omega (arith, of.node) })
      (port_changes slot node 0 rec.levels now.levels) (of_ports node 0 rec.levels now.levels))
      (all_weaker (IsIn slot (node + 1) (node + 1 + length after)) (IsIn slot node to)
      (λ change is. record { slot = is.slot; from = omega (arith, is.from); to = omega (arith, is.to) })
      (node_changes slot (node + 1) before after) (in_nodes (node + 1) before after))

  pub ports_fit : (node : Position) (port : PortNumber) (before after : List Word) → port + length after ≤ 29 → LevelsFitFrom port after
      → AllByRecursion FitsPin (port_changes slot node port before after)
  ports_fit node port [] after few fit = tt
  ports_fit node port (level ∷ before) [] few fit = tt
  ports_fit node port (level ∷ before) (now ∷ after) few fit =
      both_all FitsPin (change_in slot node port level now) (port_changes slot node (port + 1) before after)
      (of_pin FitsPin slot node port level now (record { port = omega (arith, few); value = fit.0 }))
      (ports_fit node (port + 1) before after (omega (arith, few)) fit.1)

  pub nodes_fit : (node : Position) (before after : List NodeRec) → AllByRecursion HasLevels after → AllByRecursion FitsPin (node_changes slot node before after)
  nodes_fit node [] after has = tt
  nodes_fit node (rec ∷ before) [] has = tt
  nodes_fit node (rec ∷ before) (now ∷ after) has =
      both_all FitsPin (port_changes slot node 0 rec.levels now.levels) (node_changes slot (node + 1) before after)
      (ports_fit node 0 rec.levels now.levels (omega (arith, has.0.many)) has.0.fit)
      (nodes_fit (node + 1) before after has.1)
