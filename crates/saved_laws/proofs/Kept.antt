-- The facts of what a snapshot keeps of links and wires.
use Rattle.std.proofs.Common.{◌≡◌, ℕ, zero, suc, ◌+◌, ◌*◌, ◌<◌, ◌^◌, get_or, IfSome, Option, Some, None, List, [], ◌∷◌, ◌++◌, length, map, slice_get, refl, sym, ap, ◌∙◌, subst, arith}
use Rattle.std.specs.Prelude.{nat_lt}
use Rattle.std.specs.List.{AllByRecursion}
use Rattle.std.proofs.lemmas.Option.{none-some, same_Some}
use Rattle.xs_base.specs.Ids.{port_width}
use Rattle.xs_base.specs.Numbers.{Slot, Position, EndNumber}
use Rattle.xs_base.specs.declared.entry.Entry.{Entry}
use Rattle.xs_model.specs.Record.{LinkRec}
use Rattle.sys_plan.specs.declared.LinkPlan.{LinkPlan}
use Rattle.sys_plan.specs.declared.WirePlan.{WirePlan}
use Rattle.sys_plan.specs.Plan.{PlanRec, Arc, Joined, IsPlan, arcs, link_arcs, wire_arcs, along, forth, back}
use Rattle.sys_plan.proofs.Arcs.{arcs_length}
use Rattle.sys_plan.proofs.Routes.{directed, link-arc, all-get}
use Rattle.serial_model.specs.Serial.{serial, is_credit}
use Rattle.trace_model.specs.Trace.{is_token}
use Rattle.core_step.specs.States.{link_state}
use Rattle.link_ends.specs.States.{absent_end}
use Rattle.link_laws.specs.Travel.{link_end}
use Rattle.snap_parts.specs.declared.node.SnapNode.{SnapNode}
use Rattle.snap_parts.specs.Parts.{LogRec}
use Rattle.snap_parts.specs.Snaps.{IsOnArc, AreOnArcs}
use Rattle.log_forms.specs.declared.ends.Held.{Held}
use Rattle.log_forms.specs.Windows.{EndsRec}
use Rattle.log_forms.specs.InFlight.{FitWindows, IsLinkLog, IsWireLog}
use Rattle.snap_model.specs.Saved.{saved_log, saved_logs, saved_level, saved_at}
use Rattle.locality_laws.specs.Locality.{node_in}
use Rattle.locality_laws.proofs.Serial.{upto}
use Rattle.saved_laws.specs.Bytes.{CarryBytes}
use Rattle.snap_codec.specs.Body.{held_by, end_of, held_at, ends_of}
use Rattle.snap_sizes.proofs.Logs.{counted, rising_most}
use Rattle.saved_laws.specs.Laws.{IsKeptLink, LinksMayBeKept, WiresMayBeKept, LogsAreOnArcs}
use Rattle.saved_laws.proofs.Flight.{link_entries, wire_entries}
use Rattle.saved_laws.proofs.Windows.{open_of, buffered_of, forth_at, back_at, window_a, window_b}
use Rattle.saved_laws.proofs.Counts.{upto_few, filter_few, left_fits}
use Rattle.saved_laws.proofs.Events.{histories_count}
use Rattle.saved_laws.proofs.Shape.{nodes_are_saved, logs_are_saved}

-- ---- What a node holds at a link end

state_at : (links : List (Option LinkRec)) (end : ℕ) → get_or (map link_state links) end absent_end ≡ link_state (get_or links end None)
state_at [] end = refl
state_at (link ∷ links) zero = refl
state_at (link ∷ links) (suc end) = state_at links end

abbrev holds : Option LinkRec → Held
holds link = record { window = open_of link; buffered = buffered_of link }

held_of : (link : Option LinkRec) → held_by (link_state link) ≡ holds link
held_of None = refl
held_of (Some link) = refl

held_is : (plan : PlanRec) (slot : Slot) (n : Position) (end : EndNumber) → n < length plan.nodes → held_at (saved_at plan slot).nodes n end ≡ holds (link_end (serial plan slot) n end)
held_is plan slot n end within =
    ap (λ (node : Option SnapNode). held_by (end_of end node)) (nodes_are_saved plan slot n within)
    ∙ ap held_by (state_at (node_in (serial plan slot) n).links end)
    ∙ held_of (link_end (serial plan slot) n end)

-- ---- An arc

abbrev log_of : PlanRec → Slot → ℕ → Arc → LogRec
log_of plan slot l d = saved_log slot d (upto plan l slot)

-- the log that a snapshot has is this one
log_is : (plan : PlanRec) (slot : Slot) (l : ℕ) (d : Arc) (log : LogRec) → slice_get (arcs plan) l ≡ Some d → slice_get (saved_at plan slot).logs l ≡ Some log → log_of plan slot l d ≡ log
log_is plan slot l d log here found = same_Some (log_of plan slot l d) log (sym (logs_are_saved plan slot l d here) ∙ found)

-- few were sent
record HasFew (log : LogRec) : Type 0 where
  tokens : log.tokens < 2 ^ 63
  credits : log.credits < 2 ^ 63

few_of : (plan : PlanRec) (slot : Slot) (l : ℕ) (d : Arc) → slot < 2 ^ 32 → HasFew (log_of plan slot l d)
few_of plan slot l d few =
    let all = upto plan l slot in
    let most = upto_few plan l slot in
    record {
      tokens = omega (arith, few, most, filter_few (λ (e : Entry). is_token e.what) all);
      credits = omega (arith, few, most, filter_few (λ (e : Entry). is_credit e.what) all);
    }

-- ---- Links

module _ (plan : PlanRec) (is : IsPlan plan) (slot : Slot) where
  link_log : (l : ℕ) (d : Arc) (ends : Option EndsRec) → slot < 2 ^ 32 → length (log_of plan slot l d).entries < 2 ^ 32 → slice_get (link_arcs plan.links) l ≡ Some d
      → IfSome ends (λ (e : EndsRec). FitWindows e (log_of plan slot l d).entries) → CarryBytes (log_of plan slot l d).entries → IsLinkLog slot d.delay ends (log_of plan slot l d)
  link_log l d ends few count here windows bytes =
      let counts = few_of plan slot l d few in
      record {
        count = count;
        entries = link_entries plan is l d here slot bytes;
        windows = windows;
        tokens = counts.tokens;
        credits = counts.credits;
        level = ap (λ (joins : Option Joined). saved_level slot d.delay joins (upto plan l slot)) (directed plan is l d here).joins;
      }

  module _ (k : ℕ) (link : LinkPlan) (here : slice_get plan.links k ≡ Some link) where
    abbrev forth_log : LogRec
    forth_log = log_of plan slot (2 * k) (forth link)

    abbrev back_log : LogRec
    back_log = log_of plan slot (2 * k + 1) (back link)

    forth_here : slice_get (link_arcs plan.links) (2 * k) ≡ Some (forth link)
    forth_here = forth_at plan.links k (2 * k) link refl here

    back_here : slice_get (link_arcs plan.links) (2 * k + 1) ≡ Some (back link)
    back_here = back_at plan.links k (2 * k + 1) link refl here

    windows : FitWindows (ends_of (saved_at plan slot).nodes link forth_log) back_log.entries
    windows =
        let within = directed plan is (2 * k) (forth link) forth_here in
        let a = held_is plan slot link.a link.a_end within.from in
        let b = held_is plan slot link.b link.b_end within.to in
        let one = window_a plan is slot k link here in
        let other = window_b plan is slot k link here in
        let a_window = ap (λ (h : Held). h.window) a in
        let b_window = ap (λ (h : Held). h.window) b in
        let a_buffered = ap (λ (h : Held). h.buffered) a in
        let b_buffered = ap (λ (h : Held). h.buffered) b in
        record {
          most_a = omega (arith, a_window, one.most);
          most_b = omega (arith, b_window, other.most);
          sum_a = omega (arith, a_window, b_buffered, one.sum);
          sum_b = omega (arith, b_window, a_buffered, other.sum);
        }

    kept_link : slot < 2 ^ 32 → CarryBytes forth_log.entries → CarryBytes back_log.entries → IsKeptLink slot link (saved_at plan slot).nodes forth_log back_log
    kept_link few forth_bytes back_bytes =
        -- the windows of both ends are at most 8
        let forth_count = counted forth_log.entries (link_entries plan is (2 * k) (forth link) forth_here slot forth_bytes).kinds in
        let back_count = counted back_log.entries (link_entries plan is (2 * k + 1) (back link) back_here slot back_bytes).kinds in
        record {
          first = link_log (2 * k) (forth link) None few (omega (arith, windows, forth_count)) forth_here tt forth_bytes;
          second =
              link_log (2 * k + 1) (back link) (Some (ends_of (saved_at plan slot).nodes link forth_log)) few (omega (arith, windows, back_count)) back_here
              windows back_bytes;
        }

pub links_may_be_kept : LinksMayBeKept
links_may_be_kept plan slot k link first second is few here first_is second_is first_bytes second_bytes =
    let one = log_is plan slot (2 * k) (forth link) first (link-arc plan is (2 * k) (forth link) (forth_here plan is slot k link here)) first_is in
    let other = log_is plan slot (2 * k + 1) (back link) second (link-arc plan is (2 * k + 1) (back link) (back_here plan is slot k link here)) second_is in
    let Bytes : LogRec → Type 0 = λ (log : LogRec). CarryBytes log.entries in
    let kept = kept_link plan is slot k link here few (subst Bytes (sym one) first_bytes) (subst Bytes (sym other) second_bytes) in
    subst (λ (log : LogRec). IsKeptLink slot link (saved_at plan slot).nodes first log) other
    (subst (λ (log : LogRec). IsKeptLink slot link (saved_at plan slot).nodes log (log_of plan slot (2 * k + 1) (back link))) one kept)

-- ---- Wires

-- the arc of a wire
record IsArcOf (wire : WirePlan) (d : Arc) : Type 0 where
  delay : d.delay ≡ wire.delay
  joins : d.joins ≡ Some (record { from_port = wire.a_port; to_port = wire.b_port })

arc_of_wire : (earlier wires : List WirePlan) (k : ℕ) (wire : WirePlan) → slice_get wires k ≡ Some wire → (d : Arc) × (slice_get (wire_arcs earlier wires) k ≡ Some d) × IsArcOf wire d
arc_of_wire earlier [] k wire h = absurd (none-some wire h)
arc_of_wire earlier (x ∷ wires) zero wire h =
    (_, refl, subst (λ (w : WirePlan). IsArcOf w (along earlier x)) (same_Some x wire h) (record { delay = refl; joins = refl }))
arc_of_wire earlier (x ∷ wires) (suc k) wire h = arc_of_wire (x ∷ earlier) wires k wire h

after_first : (xs ys : List Arc) (n k : ℕ) → n ≡ length xs + k → slice_get (xs ++ ys) n ≡ slice_get ys k
after_first [] ys n k e = ap (slice_get ys) (omega (arith, e))
after_first (x ∷ xs) ys zero k e = absurd (omega (arith, e))
after_first (x ∷ xs) ys (suc n) k e = after_first xs ys n k (omega (arith, e))

module _ (plan : PlanRec) (is : IsPlan plan) (slot : Slot) (l : ℕ) (d : Arc) (joined : Joined) (here : slice_get (arcs plan) l ≡ Some d) (joins : d.joins ≡ Some joined) where
  wire_level : (log_of plan slot l d).level < 2 ^ port_width joined.to_port
  wire_level =
      subst (λ (o : Option Joined). saved_level slot d.delay o (upto plan l slot) < 2 ^ port_width joined.to_port) (sym joins)
      (left_fits plan l d joined is here joins slot (λ (e : Entry). nat_lt (e.slot + d.delay) slot))

  wire_log : slot < 2 ^ 32 → IsWireLog slot d.delay (port_width joined.to_port) (log_of plan slot l d)
  wire_log few =
      let counts = few_of plan slot l d few in
      let entries = wire_entries plan is l d joined here joins slot in
      record {
        count = omega (arith, few, rising_most slot d.delay (log_of plan slot l d).entries entries.in_flight entries.order);
        entries = entries;
        tokens = counts.tokens;
        credits = counts.credits;
        level = wire_level;
      }

pub wires_may_be_kept : WiresMayBeKept
wires_may_be_kept plan slot k wire log is few here found =
    let arc = arc_of_wire [] plan.wires k wire here in
    let l = 2 * length plan.links + k in
    let at : slice_get (arcs plan) l ≡ Some arc.0 = after_first (link_arcs plan.links) (wire_arcs [] plan.wires) l k (omega (arith, arcs_length plan.links)) ∙ arc.1 in
    let joined : Joined = record { from_port = wire.a_port; to_port = wire.b_port } in
    let kept = wire_log plan is slot l arc.0 joined at arc.2.joins few in
    subst (λ (delay : ℕ). IsWireLog slot delay (port_width wire.b_port) log) arc.2.delay
    (subst (IsWireLog slot arc.0.delay (port_width wire.b_port)) (log_is plan slot l arc.0 log at found) kept)

-- ---- All arcs

-- an arc that joins no pins is one of a link
wires_join : (earlier wires : List WirePlan) → AllByRecursion (λ (d : Arc). d.joins ≡ None → ⊥) (wire_arcs earlier wires)
wires_join earlier [] = tt
wires_join earlier (wire ∷ wires) = (λ none. none-some _ (sym none), wires_join (wire ∷ earlier) wires)

of_links : (wires : List WirePlan) (xs : List Arc) (l : ℕ) (d : Arc) → slice_get (xs ++ wire_arcs [] wires) l ≡ Some d → d.joins ≡ None → slice_get xs l ≡ Some d
of_links wires [] l d h none = absurd (all-get (λ (d : Arc). d.joins ≡ None → ⊥) (wire_arcs [] wires) l d (wires_join [] wires) h none)
of_links wires (x ∷ xs) zero d h none = h
of_links wires (x ∷ xs) (suc l) d h none = of_links wires xs l d h none

module _ (plan : PlanRec) (is : IsPlan plan) (slot : Slot) where
  on_arc : (l : ℕ) (d : Arc) (joins : Option Joined) → slice_get (arcs plan) l ≡ Some d → d.joins ≡ joins → CarryBytes (log_of plan slot l d).entries
      → IsOnArc slot d.delay joins (log_of plan slot l d)
  on_arc l d None here joins bytes = link_entries plan is l d (of_links plan.wires (link_arcs plan.links) l d here joins) slot bytes
  on_arc l d (Some joined) here joins bytes = record { entries = wire_entries plan is l d joined here joins slot; level = wire_level plan is slot l d joined here joins }

on_arcs : (slot : Slot) (ds : List Arc) (histories : List (List Entry)) → length histories ≡ length ds
    → ((l : ℕ) (d : Arc) → slice_get ds l ≡ Some d → CarryBytes (saved_log slot d (get_or histories l [])).entries → IsOnArc slot d.delay d.joins (saved_log slot d (get_or histories l [])))
    → AllByRecursion (λ (log : LogRec). CarryBytes log.entries) (saved_logs slot ds histories) → AreOnArcs slot ds (saved_logs slot ds histories)
on_arcs slot [] histories e each all = tt
on_arcs slot (d ∷ ds) [] e each all = absurd (omega (arith, e))
on_arcs slot (d ∷ ds) (history ∷ histories) e each all =
    (each 0 d refl all.0, on_arcs slot ds histories (omega (arith, e)) (λ l x h. each (suc l) x h) all.1)

pub logs_are_on_arcs : LogsAreOnArcs
logs_are_on_arcs plan slot is bytes =
    on_arcs slot (arcs plan) (serial plan slot).histories (histories_count plan slot) (λ l d here. on_arc plan is slot l d d.joins here refl) bytes
