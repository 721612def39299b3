-- How many bytes the blocks of directed links and wires have, and how much is in flight on them at most.
use Rattle.std.proofs.Common.{◌≡◌, ℕ, cond, ◌+◌, ◌-◌, ◌*◌, ◌≤◌, ◌<◌, List, [], ◌∷◌, ◌++◌, length, Option, Some, None, refl, arith}
use Rattle.std.specs.List.{sum_by, count_by, last_or, AllByRecursion}
use Rattle.std.proofs.lemmas.List.{length-append}
use Rattle.std.proofs.lemmas.List.Sums.{sum_by-cons}
use Rattle.xs_base.specs.Numbers.{Slot}
use Rattle.xs_base.specs.declared.entry.Entry.{Entry}
use Rattle.xs_base.specs.declared.entry.What.{What}
use Rattle.xs_base.specs.declared.entry.What.TheVariants as what
use Rattle.sys_plan.specs.declared.LinkPlan.{LinkPlan}
use Rattle.snap_parts.specs.declared.node.SnapNode.{SnapNode}
use Rattle.snap_parts.specs.InFlight.{IsOfLink, is_token, is_credit, IsInFlight, IsEarlier, StandSo}
use Rattle.snap_parts.specs.Parts.{LogRec}
use Rattle.state_forms.proofs.Holding.{each_as}
use Rattle.byte_forms.specs.Forms.{long, word, write_chain}
use Rattle.log_forms.specs.Entries.{before_of, link_slot, wire_slot, link_value, level, wire_kind, wire_entry}
use Rattle.log_forms.specs.Windows.{EndsRec, link_count, link_kind, link_entry}
use Rattle.log_forms.specs.Logs.{sums, link_log, wire_log}
use Rattle.log_forms.proofs.LinkFacts.{link_facts}
use Rattle.log_forms.proofs.WireFacts.{wire_facts}
use Rattle.snap_codec.specs.Body.{ends_of, link_pair, by_number}
use Rattle.snap_sizes.specs.Sizes.{entries_of_log}
use Rattle.snap_sizes.proofs.Chains.{chain_alike}

-- ---- Bytes

link_entry_size : (slot : Slot) (delay : ℕ) (ends : Option EndsRec) (count : ℕ) (before : List Entry) (e : Entry)
    → length ((link_entry slot delay ends count (before_of before)).write e) ≡ 9
unfolding link_entry link_slot link_kind link_value
link_entry_size slot delay ends count before e = refl

wire_entry_size : (slot : Slot) (delay width : ℕ) (last : Option Entry) (e : Entry) → length ((wire_entry slot delay width last).write e) ≡ 9
unfolding wire_entry wire_slot wire_kind level
wire_entry_size slot delay width last e = refl

abbrev rest_bytes : LogRec → List ℕ
rest_bytes log = long.write log.tokens ++ (long.write log.credits ++ word.write log.level)

link_size : (slot : Slot) (delay : ℕ) (ends : Option EndsRec) (log : LogRec) → (link_log slot delay ends).Holds log → length ((link_log slot delay ends).write log) ≡ 24 + 9 * entries_of_log log
unfolding link_log link_count sums
link_size slot delay ends log h =
    let form = λ (before : List Entry). link_entry slot delay ends (length log.entries) (before_of before) in
    let entries = chain_alike form (length log.entries) 9 (λ before e _. link_entry_size slot delay ends (length log.entries) before e) log.entries h.0.1 in
    omega (arith, entries, length-append (write_chain form [] log.entries) (rest_bytes log))

pub wire_size : (slot : Slot) (delay width : ℕ) (log : LogRec) → (wire_log slot delay width).Holds log → length ((wire_log slot delay width).write log) ≡ 24 + 9 * entries_of_log log
unfolding wire_log sums
wire_size slot delay width log h =
    let form = λ (before : List Entry). wire_entry slot delay width (last_or None before) in
    let entries = chain_alike form (length log.entries) 9 (λ before e _. wire_entry_size slot delay width (last_or None before) e) log.entries h.0.1 in
    omega (arith, entries, length-append (write_chain form [] log.entries) (rest_bytes log))

-- on both directed links of a link
abbrev pub entries_of_pair : LogRec × LogRec → ℕ
entries_of_pair p = entries_of_log p.0 + entries_of_log p.1

pub pair_size : (slot : Slot) (all : List SnapNode) (link : LinkPlan) (p : LogRec × LogRec) → (link_pair slot all link).Holds p → length ((link_pair slot all link).write p) ≡ 48 + 9 * entries_of_pair p
unfolding link_pair
pair_size slot all link p h =
    let forth = link_size slot link.delay None p.0 h.0 in
    let back = link_size slot link.delay (Some (ends_of all link p.0)) p.1 h.1 in
    simp length-append (omega (arith, forth, back))

pub pairs_summed : (ps : List (LogRec × LogRec)) → sum_by entries_of_log (by_number ps) ≡ sum_by entries_of_pair ps
pairs_summed [] = refl
pairs_summed (p ∷ ps) =
    omega (arith, sum_by-cons entries_of_log p.0 (p.1 ∷ by_number ps), sum_by-cons entries_of_log p.1 (by_number ps), sum_by-cons entries_of_pair p ps, pairs_summed ps)

-- ---- How much is in flight

-- what a link carries is tokens and credits
one : (w : What) → IsOfLink w → cond (is_token w) 1 0 + cond (is_credit w) 1 0 ≡ 1
one (what.Token t) h = refl
one what.Credit h = refl
one (what.Level n) h = absurd h

pub counted : (es : List Entry) → AllByRecursion (λ e. IsOfLink e.what) es
    → length es ≡ count_by (λ (e : Entry). is_token e.what) es + count_by (λ (e : Entry). is_credit e.what) es
counted [] h = refl
counted (e ∷ es) h =
    let tokens = sum_by-cons (λ (f : Entry). cond (is_token f.what) 1 0) e es in
    let credits = sum_by-cons (λ (f : Entry). cond (is_credit f.what) 1 0) e es in
    omega (arith, tokens, credits, one e.what h.0, counted es h.1)

-- the windows of both ends of a link are at most 8
pub pair_most : (slot : Slot) (all : List SnapNode) (link : LinkPlan) (p : LogRec × LogRec) → (link_pair slot all link).Holds p → entries_of_pair p ≤ 16
unfolding link_pair
pair_most slot all link p h =
    let forth = link_facts slot link.delay None p.0 h.0 in
    let back = link_facts slot link.delay (Some (ends_of all link p.0)) p.1 h.1 in
    let windows = back.windows in
    omega (arith, windows, counted p.0.entries forth.entries.kinds, counted p.1.entries back.entries.kinds)

-- of a wire there is at most one level in a slot
abbrev Between : ℕ → ℕ → Entry → Type 0
Between first slot e = (first ≤ e.slot) × (e.slot < slot)

later : (first slot : ℕ) (e : Entry) (es : List Entry) → AllByRecursion (IsEarlier e) es → AllByRecursion (Between first slot) es → AllByRecursion (Between (e.slot + 1) slot) es
later first slot e [] order within = tt
later first slot e (f ∷ es) order within = ((omega (arith, order.0), within.0.1), later first slot e es order.1 within.1)

rising : (first slot : ℕ) (es : List Entry) → AllByRecursion (Between first slot) es → StandSo IsEarlier es → length es ≤ slot - first
rising first slot [] within order = omega arith
rising first slot (e ∷ es) within order =
    omega (arith, within.0.0, within.0.1, rising (e.slot + 1) slot es (later first slot e es order.0 within.1) order.1)

-- so as many are in flight as there are slots at most
pub rising_most : (slot : Slot) (delay : ℕ) (es : List Entry) → AllByRecursion (IsInFlight slot delay) es → StandSo IsEarlier es → length es ≤ slot - (slot - delay)
rising_most slot delay es in_flight order =
    rising (slot - delay) slot es (each_as (λ (e : Entry) (k : IsInFlight slot delay e). (k.sent, k.before)) es in_flight) order

pub wire_most : (slot : Slot) (delay width : ℕ) (log : LogRec) → (wire_log slot delay width).Holds log → entries_of_log log ≤ delay
wire_most slot delay width log h =
    let entries = (wire_facts slot delay width log h).entries in
    omega (arith, rising_most slot delay log.entries entries.in_flight entries.order)
