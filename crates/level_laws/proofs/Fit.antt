-- After a slot each node notes 29 levels, which fit the pins.
use Rattle.std.proofs.Common.{◌≡◌, ℕ, suc, ◌+◌, ◌<◌, ◌^◌, Option, Some, None, List, [], ◌∷◌, length, get_or, sym, subst, arith}
use Rattle.std.specs.List.{AllByRecursion}
use Rattle.xs_base.specs.Numbers.{Slot, Word, Position, PortNumber}
use Rattle.xs_base.specs.Ids.{port_width}
use Rattle.xs_model.specs.Record.{PortRec, off_port}
use Rattle.xs_model.specs.Ports.{level_of, levels_of}
use Rattle.xs_model.specs.Outside.{LevelsFitFrom, LevelsFit}
use Rattle.sys_plan.specs.Plan.{PlanRec, IsPlan}
use Rattle.serial_model.specs.Serial.{serial}
use Rattle.locality_laws.specs.Locality.{node_in}
use Rattle.locality_laws.proofs.Levels.{driven_levels_fit}
use Rattle.locality_laws.proofs.Shown.{shown_levels_fit}
use Rattle.level_laws.proofs.Lists.{all_from_each}
use Rattle.level_laws.proofs.Nodes.{nodes_count, no_node}
use Rattle.level_laws.proofs.Shown.{levels_many, after, outside, noted}
use Rattle.level_laws.proofs.Changes.{HasLevels}

-- what is driven, or else comes from outside, fits where both do
level_fits : (width : ℕ) (driven : Option Word) (shown : Word) → level_of driven 0 < 2 ^ width → shown < 2 ^ width → level_of driven shown < 2 ^ width
level_fits width None shown driven_fits shown_fits = shown_fits
level_fits width (Some value) shown driven_fits shown_fits = driven_fits

-- of ports from one on
levels_fit : (first : PortNumber) (ports : List PortRec) (shown : List Word)
    → ((p : PortNumber) → level_of (get_or ports p off_port).driven 0 < 2 ^ port_width (first + p))
    → LevelsFitFrom first shown → LevelsFitFrom first (levels_of ports shown)
levels_fit first [] shown driven_fit shown_fit = tt
levels_fit first (port ∷ ports) [] driven_fit shown_fit = tt
levels_fit first (port ∷ ports) (level ∷ shown) driven_fit shown_fit =
    let here : first + 0 ≡ first = omega arith in
    let later : (p : PortNumber) → first + suc p ≡ first + 1 + p = λ p. omega arith in (
      level_fits (port_width first) port.driven level (subst (λ q. level_of port.driven 0 < 2 ^ port_width q) here (driven_fit 0)) shown_fit.0,
      levels_fit (first + 1) ports shown (λ p. subst (λ q. level_of (get_or ports p off_port).driven 0 < 2 ^ port_width q) (later p) (driven_fit (suc p))) shown_fit.1,
    )

module _ (plan : PlanRec) (is : IsPlan plan) (slot : Slot) where
  has_levels : (n : Position) → n < length plan.nodes → HasLevels (node_in (serial plan (suc slot)) n)
  has_levels n within =
      let here : (p : PortNumber) → p ≡ 0 + p = λ p. omega arith in
      let ports = (after plan slot n within).core.ports in
      let fit = levels_fit 0 ports (outside plan slot n within)
      (λ p. subst (λ q. level_of (get_or ports p off_port).driven 0 < 2 ^ port_width q) (here p) (driven_levels_fit plan (suc slot) n p))
      (shown_levels_fit plan n slot is) in
      record { many = levels_many plan (suc slot) n within; fit = subst LevelsFit (sym (noted plan slot n within)) fit }

  pub all_have_levels : AllByRecursion HasLevels (serial plan (suc slot)).nodes
  all_have_levels =
      all_from_each HasLevels no_node (serial plan (suc slot)).nodes (λ n within. has_levels n (omega (arith, within, nodes_count plan (suc slot))))
