-- What a run saves is a snapshot of its plan.
use Rattle.std.proofs.Common.{◌≡◌, ℕ, zero, suc, ◌+◌, ◌-◌, ◌*◌, ◌<◌, ◌≤◌, ◌^◌, ◌⊎◌, inl, inr, Bool, true, false, ◌&&◌, cond, ltb, List, [], ◌∷◌, ◌++◌, length, take, drop, get_or, refl, sym, ap, ◌∙◌, subst, arith}
use Rattle.std.specs.Prelude.{Some, None, slice_get}
use Rattle.std.specs.List.{AllByRecursion}
use Rattle.std.proofs.lemmas.Bool.{cases_Bool, and_parts, ltb-true, ltb-false}
use Rattle.std.proofs.lemmas.List.{length-take, length-drop, take-append-drop}
use Rattle.std.proofs.Math.Nat.{pow-le-pow_right}
use Rattle.xs_base.specs.Ids.{port_width}
use Rattle.xs_base.specs.Numbers.{Slot}
use Rattle.sys_plan.specs.declared.LinkPlan.{LinkPlan}
use Rattle.sys_plan.specs.declared.WirePlan.{WirePlan}
use Rattle.sys_plan.specs.Plan.{PlanRec, IsPlan, arc_count}
use Rattle.sys_plan.proofs.Arcs.{arcs_length}
use Rattle.sys_plan.proofs.Told.{arcs-count}
use Rattle.system_model.specs.System as stands
use Rattle.system_model.specs.System.{System, longest_input, plan_of, system_of}
use Rattle.snap_parts.specs.declared.node.SnapNode.{SnapNode}
use Rattle.snap_parts.specs.Parts.{LogRec, BodyRec}
use Rattle.byte_forms.specs.Forms.{AreBytes}
use Rattle.log_forms.specs.Logs.{link_log, wire_log}
use Rattle.log_forms.proofs.LinkFacts.{link_from_facts}
use Rattle.log_forms.proofs.WireFacts.{wire_from_facts}
use Rattle.run_plan.proofs.Through.{all-at}
use Rattle.snap_model.specs.Saved.{saved_at}
use Rattle.state_laws.specs.Runs.{RunInRange}
use Rattle.state_bridge.specs.Fits.{NumbersFit}
use Rattle.saved_laws.specs.Bytes.{CarryBytes}
use Rattle.saved_laws.specs.Laws.{SavedIsWhole, EventsAreCounted, LinksMayBeKept, WiresMayBeKept, NodesMayBeKept}
use Rattle.snap_codec.specs.Body.{ends_of, link_pair, link_at, wire_at, body_of_fields, fields_of_body, directed_of, body}
use Rattle.snap_codec.specs.Snaps.{IsSnap, first_line, line, text_field, head}
use Rattle.snap_run.proofs.Holds.{NodesHaveTheForm, no_log, nodes_hold, links_hold, wires_hold}

-- ---- Lists

some_at : {X : Type 0} (xs : List X) (k : ℕ) (d : X) → k < length xs → slice_get xs k ≡ Some (get_or xs k d)
some_at [] k d inside = absurd (omega (arith, inside))
some_at (x ∷ xs) zero d inside = refl
some_at (x ∷ xs) (suc k) d inside = some_at xs k d (omega (arith, inside))

take_get : {X : Type 0} (n : ℕ) (xs : List X) (k : ℕ) (d : X) → k < n → get_or (take n xs) k d ≡ get_or xs k d
take_get zero xs k d inside = absurd (omega (arith, inside))
take_get (suc n) [] k d inside = refl
take_get (suc n) (x ∷ xs) zero d inside = refl
take_get (suc n) (x ∷ xs) (suc k) d inside = take_get n xs k d (omega (arith, inside))

drop_get : {X : Type 0} (n : ℕ) (xs : List X) (k : ℕ) (d : X) → get_or (drop n xs) k d ≡ get_or xs (n + k) d
drop_get zero xs k d = let same : k ≡ 0 + k = omega arith in ap (λ m. get_or xs m d) same
drop_get (suc n) [] k d = refl
drop_get (suc n) (x ∷ xs) k d = let same : suc n + k ≡ suc (n + k) = omega arith in drop_get n xs k d ∙ ap (λ m. get_or (x ∷ xs) m d) (sym same)

one_of : (a b c d : Bool) → cond a 1 (cond b 4 (cond c 8 (cond d 16 32))) ≤ 32
one_of true b c d = omega arith
one_of false true c d = omega arith
one_of false false true d = omega arith
one_of false false false true = omega arith
one_of false false false false = omega arith

narrow : (port : ℕ) → port_width port ≤ 32
narrow port = one_of (ltb port 16) (ltb port 22) (ltb port 26) (ltb port 28)

low : (port : ℕ) → 2 ^ port_width port ≤ 2 ^ 32
low port = pow-le-pow_right {n = 2} (omega arith) (narrow port)

-- ---- Logs

module _ (plan : PlanRec) (slot : Slot) (is : IsPlan plan) (small : slot < 2 ^ 32) (whole : SavedIsWhole) (links_kept : LinksMayBeKept) (wires_kept : WiresMayBeKept)
    (bytes : AllByRecursion (λ (log : LogRec). CarryBytes log.entries) (saved_at plan slot).logs) where
  abbrev logs : List LogRec
  logs = (saved_at plan slot).logs

  abbrev all : List SnapNode
  all = (saved_at plan slot).nodes

  abbrev directed : ℕ
  directed = directed_of plan

  many : length logs ≡ directed + length plan.wires
  many = omega (arith, (whole plan slot).logs, arcs-count plan, arcs_length plan.links)

  abbrev log_at : ℕ → LogRec
  log_at k = get_or logs k no_log

  carry : (k : ℕ) → k < length logs → CarryBytes (log_at k).entries
  carry k inside = all-at (λ (log : LogRec). CarryBytes log.entries) logs k no_log bytes inside

  pair_holds : (k : ℕ) → k < length plan.links → (link_pair slot all (link_at plan.links k)).Holds (log_at (k + k), log_at (suc (k + k)))
  unfolding link_pair
  pair_holds k inside =
      let link = link_at plan.links k in
      let first : k + k < length logs = omega (arith, inside, many) in
      let second : suc (k + k) < length logs = omega (arith, inside, many) in
      let even : k + k ≡ 2 * k = omega arith in
      let odd : suc (k + k) ≡ 2 * k + 1 = omega arith in
      let forth : slice_get logs (2 * k) ≡ Some (log_at (k + k)) = ap (slice_get logs) (sym even) ∙ some_at logs (k + k) no_log first in
      let back : slice_get logs (2 * k + 1) ≡ Some (log_at (suc (k + k))) = ap (slice_get logs) (sym odd) ∙ some_at logs (suc (k + k)) no_log second in
      let kept = links_kept plan slot k link (log_at (k + k)) (log_at (suc (k + k))) is small (some_at plan.links k _ inside) forth back (carry (k + k) first) (carry (suc (k + k)) second) in (
        link_from_facts slot link.delay None (log_at (k + k)) small kept.first,
        link_from_facts slot link.delay (Some (ends_of all link (log_at (k + k)))) (log_at (suc (k + k))) small kept.second,
      )

  front_holds : (k : ℕ) → k < length plan.links → (link_pair slot all (link_at plan.links k)).Holds (get_or (take directed logs) (k + k) no_log, get_or (take directed logs) (suc (k + k)) no_log)
  front_holds k inside =
      let first = take_get directed logs (k + k) no_log (omega (arith, inside)) in
      let second = take_get directed logs (suc (k + k)) no_log (omega (arith, inside)) in
      subst (λ (p : LogRec × LogRec). (link_pair slot all (link_at plan.links k)).Holds p) (λ i. (sym first i, sym second i)) (pair_holds k inside)

  wire_holds : (k : ℕ) → k < length plan.wires → (wire_log slot (wire_at plan.wires k).delay (port_width (wire_at plan.wires k).b_port)).Holds (get_or (drop directed logs) k no_log)
  wire_holds k inside =
      let wire = wire_at plan.wires k in
      let there : directed + k < length logs = omega (arith, inside, many) in
      let facts = wires_kept plan slot k wire (log_at (directed + k)) is small (some_at plan.wires k _ inside) (some_at logs (directed + k) no_log there) in
      subst (λ (log : LogRec). (wire_log slot wire.delay (port_width wire.b_port)).Holds log) (sym (drop_get directed logs k no_log))
      (wire_from_facts slot wire.delay (port_width wire.b_port) (log_at (directed + k)) small (low wire.b_port) facts)

  pub body_holds : NodesHaveTheForm → EventsAreCounted → NodesMayBeKept → RunInRange plan.nodes → AllByRecursion (λ (node : SnapNode). NumbersFit node.state) all → (body plan).Holds (saved_at plan slot)
  unfolding body
  body_holds has counted nodes_kept range fits =
      let front : length (take directed logs) ≡ 2 * length plan.links = omega (arith, length-take directed logs, many) in
      let back : length (drop directed logs) ≡ length plan.wires = omega (arith, length-drop directed logs, many) in (
        (
          small,
          (
            nodes_hold has plan slot small all (whole plan slot).nodes (nodes_kept plan slot is range) (counted plan slot small) fits,
            (links_hold plan slot all (take directed logs) front front_holds, wires_hold plan slot all (drop directed logs) back wire_holds),
          ),
        ),
        λ i. record { slot = slot; nodes = all; logs = take-append-drop directed logs i },
      )

-- ---- Texts

-- a text of a plan is short
pub short : (text : List ℕ) (plan : PlanRec) → system_of text ≡ stands.Plan plan → length text ≤ longest_input
unfolding system_of
short text plan is = by_test (cases_Bool (ltb longest_input (length text)))
  where
    by_test : (ltb longest_input (length text) ≡ true) ⊎ (ltb longest_input (length text) ≡ false) → length text ≤ longest_input
    by_test (inl long) = absurd (let refused = rw long at is in cc)
    by_test (inr not) = ltb-false longest_input (length text) not

abbrev all_below : List ℕ → Bool
all_below [] = true
all_below (x ∷ xs) = ltb x 256 && all_below xs

are_bytes : (xs : List ℕ) → all_below xs ≡ true → (i : ℕ) → get_or xs i 0 < 256
are_bytes [] below i = omega arith
are_bytes (x ∷ xs) below zero = ltb-true x 256 (and_parts (ltb x 256) (all_below xs) below).0
are_bytes (x ∷ xs) below (suc i) = are_bytes xs (and_parts (ltb x 256) (all_below xs) below).1 i

pub text_holds : (text : List ℕ) (plan : PlanRec) → system_of text ≡ stands.Plan plan → AreBytes text → head.Holds text
unfolding head line text_field
text_holds text plan is bytes = (((refl, are_bytes first_line refl), refl), (omega (arith, short text plan is), (refl, bytes)))
