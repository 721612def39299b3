-- Wires that come to the pins of a node, and what the pins show by them.
use Rattle.std.proofs.Common.{◌≡◌, ℕ, zero, suc, ◌+◌, ◌<◌, Bool, true, false, ◌&&◌, ◌||◌, eqb, cond, Option, Some, None, List, [], ◌∷◌, ◌++◌, length, get_or, refl, sym, ap, ◌∙◌, subst, arith, inl, inr}
use mathlib.Core.Logic.{◌⊎◌}
use Rattle.std.specs.Prelude.{◌==◌, if◌then◌else◌, is_some, map, replicate, slice_index}
use Rattle.std.specs.List.{AllByRecursion, list_any}
use Rattle.std.proofs.lemmas.Bool.{cases_Bool, and_right}
use Rattle.std.proofs.lemmas.List.FromFn.{fill_by_all, get_or-map-range_with_len}
use Rattle.std.proofs.lemmas.Nat.Bits.{bit_at-zero}
use Rattle.xs_base.specs.Numbers.{Word, PortNumber, LinkNumber}
use Rattle.xs_base.specs.declared.entry.Entry.{Entry}
use Rattle.xs_model.specs.declared.outside.PinView.{PinView}
use Rattle.xs_model.specs.Masks.{in_mask}
use Rattle.pin_wires.specs.Wires.{level_over, levels_over}
use Rattle.pin_wires.proofs.Over.{over-by}
use Rattle.pin_scripts.specs.Script.{view_at, pin_at, port_numbers}
use Rattle.sys_plan.specs.declared.LinkPlan.{LinkPlan}
use Rattle.sys_plan.specs.declared.WirePlan.{WirePlan}
use Rattle.sys_plan.specs.Plan.{PlanRec, IsWire, forth, back, link_arcs, wire_arcs, first_arc, comes_to_pin, wire_to, delay_of, node_numbers}
use Rattle.serial_model.specs.Serial.{pin_level_on, pins_on, pins_at, wire_level}
use Rattle.node_seats.specs.declared.pins.Pins.{Pins}
use Rattle.node_seats.specs.Shown.{ArePins, HaveCome, HaveComeOn, joins_pin, shown_by}

-- ---- The pins of a node to which wires come

by-wires : (n port : ℕ) (earlier wires : List WirePlan) (m : ℕ) → is_some (first_arc (comes_to_pin n port) m (wire_arcs earlier wires)) ≡ list_any (joins_pin n port) wires
by-wires n port earlier [] m = refl
by-wires n port earlier (wire ∷ wires) m = by (cases_Bool (joins_pin n port wire)) (by-wires n port (wire ∷ earlier) wires (m + 1))
  where
    by : (joins_pin n port wire ≡ true) ⊎ (joins_pin n port wire ≡ false)
        → is_some (first_arc (comes_to_pin n port) (m + 1) (wire_arcs (wire ∷ earlier) wires)) ≡ list_any (joins_pin n port) wires
        → is_some (first_arc (comes_to_pin n port) m (wire_arcs earlier (wire ∷ wires))) ≡ list_any (joins_pin n port) (wire ∷ wires)
    by (inl is) further = rw is refl
    by (inr is) further = rw is further

-- none of the arcs of links does
by-arcs : (n port : ℕ) (links : List LinkPlan) (wires : List WirePlan) (m : ℕ) → is_some (first_arc (comes_to_pin n port) m (link_arcs links ++ wire_arcs [] wires)) ≡ list_any (joins_pin n port) wires
by-arcs n port [] wires m = by-wires n port [] wires m
by-arcs n port (link ∷ links) wires m =
    let there : comes_to_pin n port (forth link) ≡ false = and_right (link.b == n) false refl in
    let here : comes_to_pin n port (back link) ≡ false = and_right (link.a == n) false refl in
    rw (there, here) (by-arcs n port links wires (m + 1 + 1))

pub wired-is : (plan : PlanRec) (n port : ℕ) → is_some (wire_to plan n port) ≡ list_any (joins_pin n port) plan.wires
wired-is plan n port = by-arcs n port plan.links plan.wires 0

-- ---- What the pins show

-- the pins of a plan's node show what the serial machine hands to the node, where what came by wires is what they show
module _ (shown : List Word) (plan : PlanRec) (histories : List (List Entry)) (n slot here : ℕ) (pins : Pins) (are : ArePins plan n slot pins)
    (come : HaveComeOn shown plan histories n here pins.levels) where
  abbrev scripted : List Word
  scripted = (view_at pins.script pins.number here).level

  script-at : (port : PortNumber) → port < 29 → get_or scripted port 0 ≡ pin_at plan.script (slice_index (node_numbers plan) n) port here
  script-at port within =
      get_or-map-range_with_len (λ p. pin_at pins.script pins.number p here) 0 29 port port 0 within (omega arith)
      ∙ (λ i. pin_at (are.script i) (are.number i) port here)

  of-wire : (port : PortNumber) → port < 29 → (wire : Option LinkNumber) → wire_to plan n port ≡ wire
      → cond (is_some wire) (get_or pins.levels port 0) (get_or scripted port 0) ≡ pin_level_on shown plan histories n here port wire
  of-wire port within None is = script-at port within
  of-wire port within (Some wire) is = come port wire within is

  of-port : (port : PortNumber) → port < 29 → level_over pins.wired pins.levels scripted port ≡ pin_level_on shown plan histories n here port (wire_to plan n port)
  of-port port within =
      ap (λ b. cond b (get_or pins.levels port 0) (get_or scripted port 0)) (are.wired port within) ∙ of-wire port within (wire_to plan n port) refl

  pub shows-on : shown_by pins here ≡ pins_on shown plan histories n here
  shows-on = ap (λ (levels : List Word). record { level = levels })
      (over-by pins.wired pins.levels scripted (λ port. pin_level_on shown plan histories n here port (wire_to plan n port)) of-port)

pub shows : (plan : PlanRec) (histories : List (List Entry)) (n slot here : ℕ) (pins : Pins) → ArePins plan n slot pins → HaveCome plan histories n here pins.levels → shown_by pins here ≡ pins_at plan histories n here
shows = shows-on []

-- before anything was sent, nothing came
all-same : {X : Type 0} (count port : ℕ) (x : X) → get_or (replicate count x) port x ≡ x
all-same zero port x = refl
all-same (suc count) zero x = refl
all-same (suc count) (suc port) x = all-same count port x

pub none-came : (plan : PlanRec) (histories : List (List Entry)) (n slot : ℕ) → ((wire : LinkNumber) → get_or histories wire [] ≡ []) → HaveCome plan histories n slot (replicate 29 0)
none-came plan histories n slot none = λ port wire within is. all-same 29 port 0 ∙ ap (wire_level slot (delay_of plan wire)) (sym (none wire))

-- where no wire comes, the script's levels stay
pub nothing-over : (came script : List Word) → length script ≡ 29 → levels_over 0 came script ≡ script
nothing-over came script long = sym (fill_by_all (level_over 0 came script) script 29 0 long (λ port within. sym (by port)))
  where
    by : (port : PortNumber) → level_over 0 came script port ≡ get_or script port 0
    by port = ap (λ b. cond (b == 1) (get_or came port 0) (get_or script port 0)) (bit_at-zero port)

abbrev pub no_wire : WirePlan
no_wire = record { a = 0; a_port = 0; b = 0; b_port = 0; delay = 0 }

-- each wire ends at a port
pub port-at : (nodes : ℕ) (wires lent : List WirePlan) (k : ℕ) → AllByRecursion (IsWire nodes) wires → lent ≡ wires → k < length wires → (get_or lent k no_wire).b_port < 29
port-at nodes wires lent k all same within = subst (λ (ws : List WirePlan). (get_or ws k no_wire).b_port < 29) (sym same) (by wires k all within)
  where
    by : (ws : List WirePlan) (j : ℕ) → AllByRecursion (IsWire nodes) ws → j < length ws → (get_or ws j no_wire).b_port < 29
    by [] j h l = absurd (omega arith)
    by (wire ∷ ws) zero h l = h.0.b_port
    by (wire ∷ ws) (suc j) h l = by ws j h.1 (omega arith)

-- the ports of the wires that were looked at
abbrev pub AreOfWires : ℕ → List WirePlan → ℕ → Type 0
AreOfWires n wires wired = (port : PortNumber) → port < 29 → in_mask wired port ≡ list_any (joins_pin n port) wires
