-- At the end of a slot a node notes the levels of its 29 pins: what each port drives, else what comes from outside.
use Rattle.std.proofs.Common.{◌≡◌, zero, suc, ◌<◌, List, [], ◌∷◌, length, get_or, slice_index_or, refl, sym, ap, ◌∙◌, subst, arith, add-one}
use Rattle.xs_base.specs.Numbers.{Slot, Word, Position, PortNumber}
use Rattle.xs_model.specs.declared.outside.Arrivals.{Arrivals}
use Rattle.xs_model.specs.declared.outside.PinView.{PinView}
use Rattle.xs_model.specs.Record.{NodeRec, PortRec, off_port, port_of}
use Rattle.xs_model.specs.Ports.{level_of, levels_of}
use Rattle.sys_plan.specs.Plan.{PlanRec}
use Rattle.step_model.specs.Fixed.{Fixed}
use Rattle.step_model.specs.Step.{node_step}
use Rattle.serial_model.specs.Serial.{serial}
use Rattle.locality_laws.specs.Locality.{node_in, comes_in_serial, shown_in_serial}
use Rattle.locality_laws.proofs.Nodes.{step_needs_coming}
use Rattle.wave_model.specs.Runs.{level_after}
use Rattle.level_laws.specs.Laws.{LevelsAreShown}
use Rattle.level_laws.proofs.Lists.{there}
use Rattle.level_laws.proofs.Nodes.{ports_many, first_levels}

-- the levels of all pins, where as many levels come from outside as there are ports
pub levels_count : (ports : List PortRec) (outside : List Word) → length ports ≡ length outside → length (levels_of ports outside) ≡ length ports
levels_count [] outside e = refl
levels_count (port ∷ ports) [] e = absurd (omega (arith, e))
levels_count (port ∷ ports) (level ∷ outside) e = ap suc (levels_count ports outside (omega (arith, e)))

pub level_at : (ports : List PortRec) (outside : List Word) (p : PortNumber) → length ports ≡ length outside
    → get_or (levels_of ports outside) p 0 ≡ level_of (get_or ports p off_port).driven (get_or outside p 0)
level_at [] [] p e = refl
level_at [] (level ∷ outside) p e = absurd (omega (arith, e))
level_at (port ∷ ports) [] p e = absurd (omega (arith, e))
level_at (port ∷ ports) (level ∷ outside) zero e = refl
level_at (port ∷ ports) (level ∷ outside) (suc p) e = level_at ports outside p (omega (arith, e))

-- a slot of a node ends with them
step_notes : (fixed : Fixed) (rec : NodeRec) (slot : Slot) (arrivals : Arrivals) (pins : PinView)
    → (node_step fixed rec slot arrivals pins).rec.levels ≡ levels_of (node_step fixed rec slot arrivals pins).rec.core.ports pins.level
unfolding node_step
step_notes fixed rec slot arrivals pins = refl

module _ (plan : PlanRec) (slot : Slot) (n : Position) (within : n < length plan.nodes) where
  abbrev pub after : NodeRec
  after = node_in (serial plan (suc slot)) n

  abbrev pub outside : List Word
  outside = (shown_in_serial plan n slot).level

  pub noted : after.levels ≡ levels_of after.core.ports outside
  noted =
      let node = there plan.nodes n within in
      let coming = comes_in_serial plan n slot in
      let step = step_needs_coming plan n node.0 slot coming node.1 refl in
      ap (λ (rec : NodeRec). rec.levels) step.rec
      ∙ step_notes _ _ slot _ _
      ∙ ap (λ (rec : NodeRec). levels_of rec.core.ports outside) (sym step.rec)

  pub as_many : length after.core.ports ≡ length outside
  as_many = ports_many plan (suc slot) n

  shown : (port : PortNumber) → level_after plan (suc slot) n port ≡ level_of (port_of after.core port).driven (slice_index_or outside port 0)
  shown port = ap (λ levels. get_or levels port 0) noted ∙ level_at after.core.ports outside port as_many

-- before every slot they are 29
pub levels_many : (plan : PlanRec) (slot : Slot) (n : Position) → n < length plan.nodes → length (node_in (serial plan slot) n).levels ≡ 29
levels_many plan zero n within = ap length (first_levels plan n)
levels_many plan (suc slot) n within =
    ap length (noted plan slot n within)
    ∙ levels_count (after plan slot n within).core.ports (outside plan slot n within) (as_many plan slot n within)
    ∙ ports_many plan (suc slot) n

pub levels_are_shown : LevelsAreShown
levels_are_shown plan slot n port is within _ =
    subst (λ next. level_after plan next n port ≡ level_of (port_of (node_in (serial plan next) n).core port).driven (slice_index_or (shown_in_serial plan n slot).level port 0))
    (sym (add-one slot)) (shown plan slot n within port)
