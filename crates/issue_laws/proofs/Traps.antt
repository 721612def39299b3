-- Nobody traps before the issue of a slot.
use Rattle.std.proofs.Common.{◌≡◌, ◌||◌, Bool, false, List, [], ◌∷◌, ◌++◌, map, refl, ap, sym, subst, ◌∙◌}
use Rattle.std.specs.List.{AllByRecursion}
use Rattle.xs_base.specs.Numbers.{Slot, PortNumber}
use Rattle.xs_model.specs.declared.event.Happen.{Happen}
use Rattle.xs_model.specs.declared.event.Happen.TheVariants as happen
use Rattle.xs_model.specs.declared.outside.Arrivals.{Arrivals}
use Rattle.xs_model.specs.declared.outside.PinView.{PinView}
use Rattle.xs_model.specs.Record.{NodeRec}
use Rattle.xs_model.specs.Outside.{in_slot}
use Rattle.xs_model.specs.Ports.{edges_from}
use Rattle.step_model.specs.Fixed.{Fixed}
use Rattle.step_model.specs.Step.{before_issue}
use Rattle.step_laws.proofs.Lists.{all_both, all_so}
use Rattle.step_laws.proofs.Edges.{IsWithin, edges_within}
use Rattle.step_laws.proofs.Phases.{Held, IsOfSwitch, before_issue_went}
use Rattle.core_step.specs.Told.{is_trap, has_trap}

-- what happens is no trap
abbrev pub IsQuiet : Happen → Type 0
IsQuiet what = is_trap what ≡ false

-- an edge of a port's clock is none
edge_quiet : (low high : PortNumber) (x : Happen) → IsWithin low high x → IsQuiet x
edge_quiet low high (happen.Drive port value) h = refl
edge_quiet low high (happen.Float port) h = refl
edge_quiet low high _ h = absurd h

-- nothing at the switch is one
switch_quiet : (S : Type 0) (x : Happen) → IsOfSwitch S x → IsQuiet x
switch_quiet S (happen.Trap thread et pc ed) h = absurd h
switch_quiet S _ h = refl

-- a trap is told exactly where one is among what happened later
pub told_later : (slot : Slot) (xs ys : List Happen) → AllByRecursion IsQuiet xs → has_trap (map (in_slot slot) (xs ++ ys)) ≡ has_trap (map (in_slot slot) ys)
told_later slot [] ys h = refl
told_later slot (x ∷ xs) ys h = ap (λ (traps : Bool). traps || has_trap (map (in_slot slot) (xs ++ ys))) h.0 ∙ told_later slot xs ys h.1

-- what happens before the issue of a slot is none
pub before_is_quiet : (fixed : Fixed) (rec : NodeRec) (slot : Slot) (arrivals : Arrivals) (pins : PinView) → AllByRecursion IsQuiet (before_issue fixed rec slot arrivals pins).happened
before_is_quiet fixed rec slot arrivals pins =
    let S = Held rec.inputs in
    let edged = edges_from slot rec.core.clocks rec.levels 0 rec.core.ports pins.level in
    let within = edges_within slot rec.core.clocks rec.levels 0 rec.core.ports pins.level in
    let (keeps, (more, grown, few, of), held) = before_issue_went fixed rec slot arrivals pins in
    let edges : AllByRecursion IsQuiet edged.happened = all_so (IsWithin 0 _) IsQuiet (edge_quiet 0 _) edged.happened within in
    subst (AllByRecursion IsQuiet) (sym grown) (all_both IsQuiet edged.happened more edges (all_so (IsOfSwitch S) IsQuiet (switch_quiet S) more of))
