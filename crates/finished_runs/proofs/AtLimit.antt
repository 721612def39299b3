-- Nodes that have all run up to the limit have the events that the serial machine has there.
use Rattle.std.proofs.Common.{◌≡◌, ℕ, zero, suc, ◌+◌, ◌<◌, Some, List, [], ◌∷◌, ◌++◌, length, map, slice_get, refl, sym, ap, ◌∙◌, subst, arith}
use Rattle.std.specs.List.{AllZip}
use Rattle.std.proofs.lemmas.Option.{none-some, same_Some, slice_get_within, get_or_from_slice_get}
use Rattle.std.proofs.lemmas.List.{length-map}
use Rattle.xs_base.specs.Numbers.{Slot}
use Rattle.xs_base.specs.declared.entry.Entry.{Entry}
use Rattle.xs_model.specs.declared.event.Event.{Event}
use Rattle.xs_model.specs.Record.{NodeRec}
use Rattle.sys_plan.specs.declared.NodePlan.{NodePlan}
use Rattle.sys_plan.specs.Plan.{PlanRec}
use Rattle.step_model.specs.Step.{Stepped}
use Rattle.serial_model.specs.Serial.{SystemRec, nodes_at_start, steps_from, steps_of, longer_events, serial}
use Rattle.locality_laws.specs.Locality.{events_in}
use Rattle.trace_lines.specs.Kept.{KeptEvents, Keeps}
use Rattle.node_runners.specs.Runner.{RunnerRec}
use Rattle.finished_runs.specs.Limit.{Totals, AreAtLimit}
use Rattle.finished_runs.proofs.Nodes.{keeps_there}

-- ---- The serial machine has events of each node

start_count : (plan : PlanRec) (n : ℕ) (nodes : List NodePlan) → length (nodes_at_start plan n nodes) ≡ length nodes
start_count plan n [] = refl
start_count plan n (node ∷ nodes) = ap suc (start_count plan (n + 1) nodes)

steps_count : (plan : PlanRec) (histories : List (List Entry)) (slot : Slot) (n : ℕ) (nodes : List NodePlan) (recs : List NodeRec) → length recs ≡ length nodes
    → length (steps_from plan histories slot n nodes recs) ≡ length nodes
steps_count plan histories slot n [] recs same = refl
steps_count plan histories slot n (node ∷ nodes) [] same = absurd (omega (arith, same))
steps_count plan histories slot n (node ∷ nodes) (rec ∷ recs) same = ap suc (steps_count plan histories slot (n + 1) nodes recs (omega (arith, same)))

longer_count : (steps : List Stepped) (all : List (List Event)) → length all ≡ length steps → length (longer_events steps all) ≡ length steps
longer_count [] all same = refl
longer_count (s ∷ steps) [] same = absurd (omega (arith, same))
longer_count (s ∷ steps) (events ∷ all) same = ap suc (longer_count steps all (omega (arith, same)))

record HasNodes (plan : PlanRec) (system : SystemRec) : Type 0 where
  pub nodes : length system.nodes ≡ length plan.nodes
  pub events : length system.events ≡ length plan.nodes

has_nodes : (plan : PlanRec) (slot : Slot) → HasNodes plan (serial plan slot)
unfolding serial
has_nodes plan zero = record { nodes = start_count plan 0 plan.nodes; events = length-map plan.nodes (λ (node : NodePlan). []) }
has_nodes plan (suc slot) =
    let before = has_nodes plan slot in
    let steps = steps_of plan slot (serial plan slot) in
    let count = steps_count plan (serial plan slot).histories slot 0 plan.nodes (serial plan slot).nodes before.nodes in
    record {
      nodes = length-map steps (λ (s : Stepped). s.rec) ∙ count;
      events = longer_count steps (serial plan slot).events (before.events ∙ sym count) ∙ count;
    }

-- ---- Two lists side by side

some_at : {X : Type 0} (xs : List X) (k : ℕ) → k < length xs → (x : X) × (slice_get xs k ≡ Some x)
some_at [] k below = absurd (omega arith)
some_at (x ∷ xs) zero below = (x, refl)
some_at (x ∷ xs) (suc k) below = some_at xs k (omega arith)

pub map-itself : {X : Type 0} (xs : List X) → map (λ x. x) xs ≡ xs
map-itself [] = refl
map-itself (x ∷ xs) = ap (λ ys. x ∷ ys) (map-itself xs)

module _ {X Y : Type 0} (R : X → Y → Type 0) where
  pub zip_push : (xs : List X) (ys : List Y) (x : X) (y : Y) → AllZip R xs ys → R x y → AllZip R (xs ++ x ∷ []) (ys ++ y ∷ [])
  zip_push [] [] x y all r = (r, tt)
  zip_push [] (b ∷ ys) x y all r = absurd all
  zip_push (a ∷ xs) [] x y all r = absurd all
  zip_push (a ∷ xs) (b ∷ ys) x y all r = (all.0, zip_push xs ys x y all.1 r)

  zip_count : (xs : List X) (ys : List Y) → AllZip R xs ys → length ys ≡ length xs
  zip_count [] [] all = refl
  zip_count [] (b ∷ ys) all = absurd all
  zip_count (a ∷ xs) [] all = absurd all
  zip_count (a ∷ xs) (b ∷ ys) all = ap suc (zip_count xs ys all.1)

  zip_at : (xs : List X) (ys : List Y) (k : ℕ) (x : X) (y : Y) → AllZip R xs ys → slice_get xs k ≡ Some x → slice_get ys k ≡ Some y → R x y
  zip_at [] ys k x y all at_x at_y = absurd (none-some x at_x)
  zip_at (a ∷ xs) [] k x y all at_x at_y = absurd (none-some y at_y)
  zip_at (a ∷ xs) (b ∷ ys) zero x y all at_x at_y = subst (λ v. R v y) (same_Some a x at_x) (subst (λ w. R a w) (same_Some b y at_y) all.0)
  zip_at (a ∷ xs) (b ∷ ys) (suc k) x y all at_x at_y = zip_at xs ys k x y all.1 at_x at_y

  zip_from : (xs : List X) (ys : List Y) → length xs ≡ length ys → ((k : ℕ) (x : X) (y : Y) → slice_get xs k ≡ Some x → slice_get ys k ≡ Some y → R x y) → AllZip R xs ys
  zip_from [] [] same each = tt
  zip_from [] (b ∷ ys) same each = absurd (omega (arith, same))
  zip_from (a ∷ xs) [] same each = absurd (omega (arith, same))
  zip_from (a ∷ xs) (b ∷ ys) same each = (each 0 a b refl refl, zip_from xs ys (omega (arith, same)) (λ k x y at_x at_y. each (suc k) x y at_x at_y))

-- ---- What is kept of each node

-- these are the events of a node up to its clock
abbrev pub KeepsOf : RunnerRec → KeptEvents → Type 0
KeepsOf runner kept = Keeps kept (events_in (serial runner.plan runner.clock) runner.node)

module _ (plan : PlanRec) (limit : Slot) (runners : List RunnerRec) (totals : List Totals) (is : AreAtLimit plan limit runners totals) where
  pub kept_count : (kept : List KeptEvents) → AllZip KeepsOf runners kept → length kept ≡ length plan.nodes
  kept_count kept all = zip_count KeepsOf runners kept all ∙ is.nodes

  kept_at : (kept : List KeptEvents) → AllZip KeepsOf runners kept → (k : ℕ) (own : KeptEvents) (events : List Event)
      → slice_get kept k ≡ Some own → slice_get (serial plan limit).events k ≡ Some events → Keeps own events
  kept_at kept all k own events at_own at_events =
      let runner = some_at runners k (omega (arith, slice_get_within kept k own at_own, zip_count KeepsOf runners kept all)) in
      let here = is.each_node k runner.0 runner.1 in
      let there = keeps_there here (zip_at KeepsOf runners kept k runner.0 own all runner.1 at_own) in
      subst (Keeps own) (get_or_from_slice_get (serial plan limit).events k events [] at_events) there

  pub all_kept : (kept : List KeptEvents) → AllZip KeepsOf runners kept → AllZip Keeps kept (serial plan limit).events
  all_kept kept all =
      zip_from Keeps kept (serial plan limit).events (kept_count kept all ∙ sym (has_nodes plan limit).events) (kept_at kept all)
