-- The system over slots in which nothing arrives anywhere and no node stirs.
use Rattle.std.proofs.Common.{◌≡◌, ℕ, zero, suc, ◌+◌, ◌-◌, ◌<◌, ◌≤◌, true, false, eqb, Option, Some, None, List, [], ◌∷◌, ◌++◌, length, map, get_or, replicate, refl, sym, ap, ap₂, ◌∙◌, subst, arith}
use Rattle.std.proofs.lemmas.Bool.{eq-eqb}
use Rattle.std.proofs.lemmas.List.{append-nil}
use Rattle.xs_base.specs.Numbers.{Slot, Word, Position, EndNumber, PortNumber}
use Rattle.xs_base.specs.declared.token.Token.{Token}
use Rattle.xs_base.specs.declared.entry.Entry.{Entry}
use Rattle.xs_model.specs.declared.event.Event.{Event}
use Rattle.xs_model.specs.declared.outside.Arrivals.{Arrivals}
use Rattle.xs_model.specs.Record.{NodeRec, port_of}
use Rattle.xs_model.specs.Ports.{level_of}
use Rattle.xs_model.specs.Outside.{emitted_events}
use Rattle.sys_plan.specs.declared.NodePlan.{NodePlan}
use Rattle.sys_plan.specs.Plan.{PlanRec, Arc, Joined, arcs, gaps_of}
use Rattle.step_model.specs.Start.{fixed_of}
use Rattle.step_model.specs.Step.{Stepped, node_step}
use Rattle.step_laws.specs.EightSlots.{after_slots}
use Rattle.step_laws.specs.Pins.{SlotTellsDriven, driven_after}
use Rattle.step_laws.specs.Shape.{HasShape, SlotKeepsShape}
use Rattle.quiet_model.specs.Stirs.{stirs}
use Rattle.quiet_laws.specs.Undisturbed.{no_arrivals, undisturbed_run, undisturbed_until, IsWhole}
use Rattle.quiet_laws.specs.Quiet.{QuietSlotOnlyCounts, IsQuietUntil}
use Rattle.serial_model.specs.Serial.{SystemRec, Begun, since, step_on, system_after, steps_from_on, sent_by, token_entries, credit_entries, longer_histories, longer_events, pins_on, arrivals_at}
use Rattle.serial_model.specs.Serial.{carried_by, level_entries, driven_level, node_by}
use Rattle.std.specs.List.{AllByRecursion}

pub whole_by : {rec : NodeRec} → HasShape rec → IsWhole rec.core
whole_by has = record { ports = has.ports; last = has.threads }

-- ---- Steps that give nothing

abbrev pub given_nothing : NodeRec → Stepped
given_nothing rec = record { rec = rec; emitted = emitted_events [] }

recs_of : (recs : List NodeRec) → map (λ (s : Stepped). s.rec) (map given_nothing recs) ≡ recs
recs_of [] = refl
recs_of (rec ∷ recs) = ap (λ rest. rec ∷ rest) (recs_of recs)

emitted_of : (recs : List NodeRec) (k : ℕ) → get_or (map (λ (s : Stepped). s.emitted) (map given_nothing recs)) k (emitted_events []) ≡ emitted_events []
emitted_of [] k = refl
emitted_of (rec ∷ recs) zero = refl
emitted_of (rec ∷ recs) (suc k) = emitted_of recs k

all_default : {A : Type 0} (n : ℕ) (d : A) (k : ℕ) → get_or (replicate n d) k d ≡ d
all_default zero d k = refl
all_default (suc n) d zero = refl
all_default (suc n) d (suc k) = all_default n d k

sends_nothing : (slot : Slot) (end : EndNumber) → sent_by slot (emitted_events []) end ≡ []
sends_nothing slot end =
    ap₂ (λ token credit. token_entries slot token ++ credit_entries slot credit) (all_default {A = Option Token} 8 None end) (all_default 8 false end)

-- no level is told where what is driven stays
no-level-told : (slot : Slot) (before after : Word) → after ≡ before → level_entries slot before after ≡ []
no-level-told slot before after same = let is : eqb after before ≡ true = eq-eqb after before same in rw is refl

nothing-carried : (slot : Slot) (before after : NodeRec) (end : EndNumber) (joins : Option Joined) → ((p : PortNumber) → driven_level after p ≡ driven_level before p)
    → carried_by slot before after (emitted_events []) end joins ≡ []
nothing-carried slot before after end None same = sends_nothing slot end
nothing-carried slot before after end (Some joined) same = no-level-told slot (driven_level before joined.from_port) (driven_level after joined.from_port) (same joined.from_port)

-- each port drives what it drove
abbrev pub DriveTheSame : List NodeRec → List NodeRec → Type 0
DriveTheSame nodes later = (n : Position) (p : PortNumber) → driven_level (node_by later n) p ≡ driven_level (node_by nodes n) p

-- no history goes on
histories_stay : (slot : Slot) (nodes recs : List NodeRec) → DriveTheSame nodes recs → (ds : List Arc) (histories : List (List Entry)) → length histories ≡ length ds
    → longer_histories slot nodes (map given_nothing recs) ds histories ≡ histories
histories_stay slot nodes recs drive [] [] same = refl
histories_stay slot nodes recs drive [] (h ∷ hs) same = absurd (omega (arith, same))
histories_stay slot nodes recs drive (d ∷ ds) [] same = absurd (omega (arith, same))
histories_stay slot nodes recs drive (d ∷ ds) (h ∷ hs) same =
    let before = node_by nodes d.from in
    let here =
    (λ i. h ++ carried_by slot before (node_by (recs_of recs i) d.from) (emitted_of recs d.from i) d.from_end d.joins)
    ∙ ap (λ sent. h ++ sent) (nothing-carried slot before (node_by recs d.from) d.from_end d.joins (drive d.from)) ∙ append-nil h in
    let rest = histories_stay slot nodes recs drive ds hs (omega (arith, same)) in
    λ i. here i ∷ rest i

module _ (shown : List Word) (plan : PlanRec) (from : Slot) (histories : List (List Entry)) where
  -- ---- Nodes at which nothing arrives

  -- a node, at a position, before a later slot
  abbrev pub rested : Slot → Position → NodePlan → NodeRec → NodeRec
  rested slot n node rec = undisturbed_until (fixed_of node (gaps_of plan n)) rec from (pins_on shown plan histories n) slot

  -- these nodes, the first of which stands at position n
  abbrev pub all_rested : Slot → Position → List NodePlan → List NodeRec → List NodeRec
  all_rested slot n (node ∷ nodes) (rec ∷ recs) = rested slot n node rec ∷ all_rested slot (n + 1) nodes recs
  all_rested slot n _ _ = []

  -- the system, when no node sent anything and nothing happened
  abbrev pub system_rested : Slot → SystemRec → SystemRec
  system_rested slot system = record system { nodes = all_rested slot 0 plan.nodes system.nodes }

  -- none of these nodes stirs before a slot, the first of which stands at position n
  abbrev pub AllQuietUntil : Slot → Position → List NodePlan → List NodeRec → List (List Event) → Type 0
  AllQuietUntil to n [] [] [] = Unit {0}
  AllQuietUntil to n (node ∷ nodes) (rec ∷ recs) (es ∷ events) =
      IsQuietUntil (fixed_of node (gaps_of plan n)) rec from (pins_on shown plan histories n) to × AllQuietUntil to (n + 1) nodes recs events
  AllQuietUntil to n _ _ _ = ⊥

  none_yet : (n : Position) (node : NodePlan) (rec : NodeRec) → rested from n node rec ≡ rec
  unfolding after_slots
  none_yet n node rec = let none : from - from ≡ 0 = omega arith in ap (after_slots (undisturbed_run (fixed_of node (gaps_of plan n)) rec from (pins_on shown plan histories n))) none

  all_not_yet : (to : Slot) (n : Position) (nodes : List NodePlan) (recs : List NodeRec) (events : List (List Event)) → AllQuietUntil to n nodes recs events → all_rested from n nodes recs ≡ recs
  all_not_yet to n [] [] [] quiet = refl
  all_not_yet to n (node ∷ nodes) (rec ∷ recs) (es ∷ events) quiet =
      let here = none_yet n node rec in
      let rest = all_not_yet to (n + 1) nodes recs events quiet.1 in
      λ i. here i ∷ rest i
  all_not_yet to n _ _ _ quiet = absurd quiet

  next_rested : (slot : Slot) (n : Position) (node : NodePlan) (rec : NodeRec) → from ≤ slot
      → (node_step (fixed_of node (gaps_of plan n)) (rested slot n node rec) slot no_arrivals (pins_on shown plan histories n slot)).rec ≡ rested (suc slot) n node rec
  unfolding after_slots
  next_rested slot n node rec on =
      let fixed = fixed_of node (gaps_of plan n) in
      let run = undisturbed_run fixed rec from (pins_on shown plan histories n) in
      let more : suc (slot - from) ≡ suc slot - from = omega (arith, on) in
      let here : slot ≡ from + (slot - from) = omega (arith, on) in
      ap (λ s. (node_step fixed (rested slot n node rec) s no_arrivals (pins_on shown plan histories n s)).rec) here ∙ ap (after_slots run) more

  -- each keeps its shape
  next_have : SlotKeepsShape → (slot : Slot) → from ≤ slot → (n : Position) (nodes : List NodePlan) (recs : List NodeRec) → AllByRecursion HasShape (all_rested slot n nodes recs)
      → AllByRecursion HasShape (all_rested (suc slot) n nodes recs)
  next_have keeps slot on n [] recs have = tt
  next_have keeps slot on n (node ∷ nodes) [] have = tt
  next_have keeps slot on n (node ∷ nodes) (rec ∷ recs) have =
      (subst HasShape (next_rested slot n node rec on) (keeps _ (rested slot n node rec) slot _ _ have.0), next_have keeps slot on (n + 1) nodes recs have.1)

  -- ---- One slot

  module _ (counts : QuietSlotOnlyCounts) (slot : Slot) (on : from ≤ slot) where
    rests_one : (n : Position) (node : NodePlan) (rec : NodeRec) (arrivals : Arrivals) → HasShape (rested slot n node rec) → stirs (rested slot n node rec) slot ≡ false → arrivals ≡ no_arrivals
        → node_step (fixed_of node (gaps_of plan n)) (rested slot n node rec) slot arrivals (pins_on shown plan histories n slot) ≡ given_nothing (rested (suc slot) n node rec)
    rests_one n node rec arrivals has calm nothing =
        let fixed = fixed_of node (gaps_of plan n) in
        let now = rested slot n node rec in
        let alike = ap (λ a. node_step fixed now slot a (pins_on shown plan histories n slot)) nothing in
        let next = ap (λ (s : Stepped). s.rec) alike ∙ next_rested slot n node rec on in
        let none = ap (λ (s : Stepped). s.emitted) alike ∙ ap (λ (s : Stepped). s.emitted) (counts fixed now slot (pins_on shown plan histories n slot) (whole_by has) refl calm) in
        λ i. record { rec = next i; emitted = none i }

    module _ (to : Slot) (before : slot < to) (nothing : (n : Position) → arrivals_at plan histories slot n ≡ no_arrivals) where
      all_step : (n : Position) (nodes : List NodePlan) (recs : List NodeRec) (events : List (List Event)) → AllQuietUntil to n nodes recs events
          → AllByRecursion HasShape (all_rested slot n nodes recs)
          → steps_from_on shown plan histories slot n nodes (all_rested slot n nodes recs) ≡ map given_nothing (all_rested (suc slot) n nodes recs)
      all_step n [] [] [] quiet has = refl
      all_step n (node ∷ nodes) (rec ∷ recs) (es ∷ events) quiet has =
          let here = rests_one n node rec (arrivals_at plan histories slot n) has.0 (quiet.0 slot on before) (nothing n) in
          let rest = all_step (n + 1) nodes recs events quiet.1 has.1 in
          λ i. here i ∷ rest i
      all_step n _ _ _ quiet has = absurd quiet

      events_stay : (n : Position) (nodes : List NodePlan) (recs : List NodeRec) (events : List (List Event)) → AllQuietUntil to n nodes recs events
          → longer_events (map given_nothing (all_rested (suc slot) n nodes recs)) events ≡ events
      events_stay n [] [] [] quiet = refl
      events_stay n (node ∷ nodes) (rec ∷ recs) (es ∷ events) quiet =
          let here = append-nil es in
          let rest = events_stay (n + 1) nodes recs events quiet.1 in
          λ i. here i ∷ rest i
      events_stay n _ _ _ quiet = absurd quiet

      -- each port drives what it drove, as no event tells of another level
      module _ (tells : SlotTellsDriven) where
        drives-one : (n : Position) (node : NodePlan) (rec : NodeRec) → HasShape (rested slot n node rec) → stirs (rested slot n node rec) slot ≡ false → (p : PortNumber)
            → driven_level (rested (suc slot) n node rec) p ≡ driven_level (rested slot n node rec) p
        drives-one n node rec has calm p =
            let fixed = fixed_of node (gaps_of plan n) in
            let now = rested slot n node rec in
            let arrivals = arrivals_at plan histories slot n in
            let step = rests_one n node rec arrivals has calm (nothing n) in
            ap (λ (driven : Option Word). level_of driven 0)
            (ap (λ (s : Stepped). (port_of s.rec.core p).driven) (sym step)
            ∙ tells fixed now slot arrivals (pins_on shown plan histories n slot) p
            ∙ ap (λ (s : Stepped). driven_after p (port_of now.core p).driven s.emitted.events) step)

        drives-all : (n : Position) (nodes : List NodePlan) (recs : List NodeRec) (events : List (List Event)) → AllQuietUntil to n nodes recs events
            → AllByRecursion HasShape (all_rested slot n nodes recs) → DriveTheSame (all_rested slot n nodes recs) (all_rested (suc slot) n nodes recs)
        drives-all n [] [] [] quiet has k p = refl
        drives-all n (node ∷ nodes) (rec ∷ recs) (es ∷ events) quiet has zero p = drives-one n node rec has.0 (quiet.0 slot on before) p
        drives-all n (node ∷ nodes) (rec ∷ recs) (es ∷ events) quiet has (suc k) p = drives-all (n + 1) nodes recs events quiet.1 has.1 k p
        drives-all n _ _ _ quiet has k p = absurd quiet

    module _ (tells : SlotTellsDriven) (to : Slot) (system : SystemRec) (here : system.histories ≡ histories) (before : slot < to) (same : length histories ≡ length (arcs plan))
        (nothing : (n : Position) → arrivals_at plan histories slot n ≡ no_arrivals) (quiet : AllQuietUntil to 0 plan.nodes system.nodes system.events)
        (has : AllByRecursion HasShape (all_rested slot 0 plan.nodes system.nodes)) where
      drive_rests : DriveTheSame (all_rested slot 0 plan.nodes system.nodes) (all_rested (suc slot) 0 plan.nodes system.nodes)
      drive_rests = drives-all to before nothing tells 0 plan.nodes system.nodes system.events quiet has

      system_rests : step_on shown plan slot (system_rested slot system) ≡ system_rested (suc slot) system
      system_rests =
          let now = all_rested slot 0 plan.nodes system.nodes in
          let next = all_rested (suc slot) 0 plan.nodes system.nodes in
          let steps =
          ap (λ hs. steps_from_on shown plan hs slot 0 plan.nodes now) here ∙ all_step to before nothing 0 plan.nodes system.nodes system.events quiet has in
          let nodes = recs_of next in
          let stay = ap (longer_histories slot now (map given_nothing next) (arcs plan)) here ∙ histories_stay slot now next drive_rests (arcs plan) histories same ∙ sym here in
          let events = events_stay to before nothing 0 plan.nodes system.nodes system.events quiet in
          ap (system_after plan slot (system_rested slot system)) steps ∙ (λ i. record { nodes = nodes i; histories = stay i; events = events i })

-- ---- All the slots

-- a system that begins before this slot
abbrev pub begun_by : List Word → Slot → SystemRec → Begun
begun_by shown from start = record { slot = from; system = start; shown = shown }

-- where it has gone over so many slots in which nothing happened: to what, what its ports then drive, and that its nodes have their shape
record HasRested (shown : List Word) (plan : PlanRec) (from : Slot) (start : SystemRec) (count : ℕ) (slot : Slot) : Type 0 where
  system : since plan (begun_by shown from start) count ≡ system_rested shown plan from start.histories slot start
  drive : DriveTheSame start.nodes (all_rested shown plan from start.histories slot 0 plan.nodes start.nodes)
  shapes : AllByRecursion HasShape (all_rested shown plan from start.histories slot 0 plan.nodes start.nodes)

module _ (shown : List Word) (plan : PlanRec) (from : Slot) (start : SystemRec) where
  abbrev later : Slot → List NodeRec
  later slot = all_rested shown plan from start.histories slot 0 plan.nodes start.nodes

  module _ (counts : QuietSlotOnlyCounts) (tells : SlotTellsDriven) (keeps : SlotKeepsShape) (has : AllByRecursion HasShape start.nodes) (to : Slot) (same : length start.histories ≡ length (arcs plan))
      (nothing : (slot : Slot) → from ≤ slot → slot < to → (n : Position) → arrivals_at plan start.histories slot n ≡ no_arrivals)
      (quiet : AllQuietUntil shown plan from start.histories to 0 plan.nodes start.nodes start.events) where
    after_some : (count : ℕ) → from + count ≤ to → HasRested shown plan from start count (from + count)
    unfolding since
    after_some zero within =
        let none : from + 0 ≡ from = omega arith in
        let yet = all_not_yet shown plan from start.histories to 0 plan.nodes start.nodes start.events quiet in
        subst (HasRested shown plan from start 0) (sym none) (record {
          system = λ i. record start { nodes = sym yet i };
          drive = λ n p. ap (λ (nodes : List NodeRec). driven_level (node_by nodes n) p) yet;
          shapes = subst (AllByRecursion HasShape) (sym yet) has;
        })
    after_some (suc count) within =
        let slot = from + count in
        let one : suc slot ≡ from + suc count = omega arith in
        let so_far = after_some count (omega (arith, within)) in
        let before : slot < to = omega (arith, within) in
        let on : from ≤ slot = omega arith in
        let step = system_rests shown plan from start.histories counts slot on tells to start refl before same (nothing slot on before) quiet so_far.shapes in
        let drive = drive_rests shown plan from start.histories counts slot on tells to start refl before same (nothing slot on before) quiet so_far.shapes in
        subst (HasRested shown plan from start (suc count)) one (record {
          system = ap (step_on shown plan slot) so_far.system ∙ step;
          drive = λ n p. drive n p ∙ so_far.drive n p;
          shapes = next_have shown plan from start.histories keeps slot on 0 plan.nodes start.nodes so_far.shapes;
        })

    after_all : from ≤ to → HasRested shown plan from start (to - from) to
    after_all on =
        let there : from + (to - from) ≡ to = omega (arith, on) in
        subst (HasRested shown plan from start (to - from)) there (after_some (to - from) (omega (arith, there)))

    pub all_after : from ≤ to → since plan (begun_by shown from start) (to - from) ≡ record start { nodes = later to }
    all_after on = (after_all on).system

    pub drive_after : from ≤ to → DriveTheSame start.nodes (later to)
    drive_after on = (after_all on).drive

    pub shapes_after : from ≤ to → AllByRecursion HasShape (later to)
    shapes_after on = (after_all on).shapes
