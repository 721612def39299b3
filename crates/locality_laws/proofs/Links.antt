-- What was sent stays sent, and what is known of an arc up to a slot tells all that arrives a delay later.
use Rattle.std.proofs.Common.{◌≡◌, ◌⊎◌, inl, inr, ℕ, suc, ◌+◌, ◌-◌, ◌<◌, ◌≤◌, Bool, true, false, eqb, leb, ltb, cond, Option, Some, None, List, [], ◌∷◌, ◌++◌, length, map, filter, slice_get, slice_index_or, refl, sym, ap, ◌∙◌, subst, arith, length-append}
use Rattle.std.specs.List.{AllByRecursion}
use Rattle.std.proofs.lemmas.Bool.{cases_Bool, and_parts, eqb-true, eqb-false, ne_eqb, leb-true, ltb-true, le-leb, lt-leb, lt-ltb}
use Rattle.std.proofs.lemmas.List.{append-nil}
use Rattle.std.proofs.lemmas.List.Elements.{filter-append}
use Rattle.xs_base.specs.Numbers.{Slot}
use Rattle.xs_base.specs.declared.token.Token.{Token}
use Rattle.xs_base.specs.declared.entry.Entry.{Entry}
use Rattle.xs_base.specs.declared.entry.What.TheVariants as what
use Rattle.xs_model.specs.Record.{NodeRec}
use Rattle.xs_model.specs.Outside.{Emitted}
use Rattle.step_model.specs.Step.{Stepped}
use Rattle.sys_plan.specs.Plan.{PlanRec, Arc, Joined, arcs, delay_of}
use Rattle.serial_model.specs.Serial.{is_sent_within, arriving, history, serial, level_or, level_after, arrived_by, steps_of, node_by, emitted_by, token_entries, credit_entries, driven_level, level_entries, carried_by}
use Rattle.locality_laws.specs.Horizon.{HistoriesGrow, HistoriesAreWhole, CarriesFew, SlotsCarryFew, SeenArrives, ArrivesLater, level_before, LevelsGoOn, WiresShowLater, LevelsCome, SeenLevels}
use Rattle.locality_laws.proofs.Entries.{AllFrom, AllBefore, all_weaker, filter_same, filter_through, filter_none}
use Rattle.locality_laws.proofs.Serial.{upto, sent_before, grown, added, new_in, new_are_in, goes_on}

-- ---- Slots from one on and before another

within_yes : (from to : Slot) (e : Entry) → from ≤ e.slot → e.slot < to → is_sent_within from to e ≡ true
within_yes from to e h k = rw (le-leb from e.slot h, lt-ltb e.slot to k) refl

within_early : (from to : Slot) (e : Entry) → e.slot < from → is_sent_within from to e ≡ false
within_early from to e h = rw (lt-leb from e.slot h) refl

-- where the end is past both, it does not matter
within_later : (from to other : Slot) (e : Entry) → e.slot < to → e.slot < other → is_sent_within from to e ≡ is_sent_within from other e
within_later from to other e h k = rw (lt-ltb e.slot to h, lt-ltb e.slot other k) refl

-- what was sent in the second of two stretches is let through alike by the test of both
later_alike : (from mid to : Slot) → from ≤ mid → (xs : List Entry) → AllFrom mid xs → AllBefore to xs → AllByRecursion (λ (e : Entry). is_sent_within mid to e ≡ is_sent_within from to e) xs
later_alike from mid to first [] h k = tt
later_alike from mid to first (e ∷ xs) h k = (within_yes mid to e h.0 k.0 ∙ sym (within_yes from to e (omega (arith, h.0, first)) k.0), later_alike from mid to first xs h.1 k.1)

pub histories_grow : HistoriesGrow
histories_grow plan l from mid to first later =
    let old = upto plan l mid in
    let g = grown plan l mid (to - mid) to (omega (arith, later)) in
    let sent = sent_before plan l mid in
    let early = all_weaker (λ (e : Entry). e.slot < mid) (λ (e : Entry). is_sent_within mid to e ≡ false) (λ e h. within_early mid to e h) old sent in
    let same = all_weaker (λ (e : Entry). e.slot < mid) (λ (e : Entry). is_sent_within from mid e ≡ is_sent_within from to e)
    (λ e h. within_later from mid to e h (omega (arith, h, later))) old sent in
    let late = later_alike from mid to first g.more g.from g.before in
    let second : filter (is_sent_within mid to) (upto plan l to) ≡ filter (is_sent_within from to) g.more =
    ap (filter (is_sent_within mid to)) g.all
    ∙ filter-append (is_sent_within mid to) old g.more
    ∙ ap (λ h. h ++ filter (is_sent_within mid to) g.more) (filter_none (is_sent_within mid to) old early)
    ∙ filter_same (is_sent_within mid to) (is_sent_within from to) g.more late in
    ap (λ h. h ++ filter (is_sent_within mid to) (upto plan l to)) (filter_same (is_sent_within from mid) (is_sent_within from to) old same)
    ∙ ap (λ h. filter (is_sent_within from to) old ++ h) second
    ∙ sym (ap (filter (is_sent_within from to)) g.all ∙ filter-append (is_sent_within from to) old g.more)

-- over no slots a link carries nothing
pub none_carried : (plan : PlanRec) (link : ℕ) (slot : Slot) → history plan link slot slot ≡ []
none_carried plan link slot = cancel (history plan link slot slot) (histories_grow plan link slot slot slot (omega arith) (omega arith))
  where
    cancel : (xs : List Entry) → xs ++ xs ≡ xs → xs ≡ []
    cancel [] same = refl
    cancel (x ∷ xs) same = absurd (omega (arith, length-append (x ∷ xs) (x ∷ xs), ap (length {A = Entry}) same))

filter_every : (p : Entry → Bool) (xs : List Entry) → AllByRecursion (λ (e : Entry). p e ≡ true) xs → filter p xs ≡ xs
filter_every p [] h = refl
filter_every p (e ∷ xs) h = rw h.0 (ap (λ l. e ∷ l) (filter_every p xs h.1))

pub histories_are_whole : HistoriesAreWhole
histories_are_whole plan l slots =
    filter_every (is_sent_within 0 slots) (upto plan l slots) (all_weaker (λ (e : Entry). e.slot < slots) (λ (e : Entry). is_sent_within 0 slots e ≡ true) (λ e h. within_yes 0 slots e (omega arith) h) (upto plan l slots) (sent_before plan l slots))

-- ---- What arrives

module _ (plan : PlanRec) (l slot delay : ℕ) where
  abbrev Arrives : List Entry → List Entry
  Arrives history = arriving slot delay history

  -- of what was sent too late to arrive in the slot, nothing does
  late_arrives : (sent : Slot) (xs : List Entry) → slot < sent + delay → AllFrom sent xs → Arrives xs ≡ []
  late_arrives sent xs late h =
      filter_none (λ (e : Entry). eqb (e.slot + delay) slot) xs (all_weaker (λ (e : Entry). sent ≤ e.slot) (λ (e : Entry). eqb (e.slot + delay) slot ≡ false)
      (λ e h. ne_eqb (e.slot + delay) slot (λ same. omega (arith, same, h, late))) xs h)

  -- so a longer history tells no more of it
  pub longer_arrives : (sent to : Slot) → sent ≤ to → slot < sent + delay → Arrives (upto plan l to) ≡ Arrives (upto plan l sent)
  longer_arrives sent to on late =
      let g = grown plan l sent (to - sent) to (omega (arith, on)) in
      ap Arrives g.all
      ∙ filter-append (λ (e : Entry). eqb (e.slot + delay) slot) (upto plan l sent) g.more
      ∙ ap (λ h. Arrives (upto plan l sent) ++ h) (late_arrives sent g.more late g.from)
      ∙ append-nil (Arrives (upto plan l sent))

pub seen_arrives : SeenArrives
seen_arrives plan l from seen slot least known ahead =
    let delay = delay_of plan l in
    -- all that was sent before this slot has arrived by now, and nothing that was sent later
    let last = suc slot - delay in
    filter_through (λ (e : Entry). eqb (e.slot + delay) slot) (is_sent_within from seen)
    (λ e h. let is = eqb-true (e.slot + delay) slot h in within_yes from seen e (omega (arith, is, known)) (omega (arith, is, ahead)))
    (upto plan l seen)
    ∙ longer_arrives plan l slot delay last seen (omega (arith, ahead)) (omega arith)
    ∙ sym (longer_arrives plan l slot delay last slot (omega (arith, least)) (omega arith))

pub arrives_later : ArrivesLater
arrives_later plan l slot least =
    let delay = delay_of plan l in
    let last = suc slot - delay in
    let same : AllByRecursion (λ (e : Entry). eqb (e.slot + delay) slot ≡ is_sent_within (slot - delay) last e) (upto plan l last) =
    all_weaker (λ (e : Entry). e.slot < last) (λ (e : Entry). eqb (e.slot + delay) slot ≡ is_sent_within (slot - delay) last e) (λ e h. by_test delay e h (cases_Bool (eqb (e.slot + delay) slot))) (upto plan l last) (sent_before plan l last) in
    longer_arrives plan l slot delay last slot (omega (arith, least)) (omega arith)
    ∙ filter_same (λ (e : Entry). eqb (e.slot + delay) slot) (is_sent_within (slot - delay) last) (upto plan l last) same
  where
    by_test : (delay : ℕ) (e : Entry) → e.slot < suc slot - delay → (eqb (e.slot + delay) slot ≡ true) ⊎ (eqb (e.slot + delay) slot ≡ false)
        → eqb (e.slot + delay) slot ≡ is_sent_within (slot - delay) (suc slot - delay) e
    by_test delay e h (inl is) =
        is ∙ sym (within_yes (slot - delay) (suc slot - delay) e (omega (arith, eqb-true (e.slot + delay) slot is)) h)
    by_test delay e h (inr not) =
        not ∙ sym (within_early (slot - delay) (suc slot - delay) e (omega (arith, h, eqb-false (e.slot + delay) slot not)))

-- ---- Levels

pub level_append : (level : ℕ) (xs ys : List Entry) → level_after level (xs ++ ys) ≡ level_after (level_after level xs) ys
level_append level [] ys = refl
level_append level (x ∷ xs) ys = level_append (level_or x.what level) xs ys

pub levels_go_on : LevelsGoOn
levels_go_on plan l from to later =
    sym (level_append 0 (history plan l 0 from) (history plan l from to))
    ∙ ap (level_after 0) (histories_grow plan l 0 from to (omega arith) later)

kept_pass : (p : Entry → Bool) (xs : List Entry) → AllByRecursion (λ (e : Entry). p e ≡ true) (filter p xs)
kept_pass p [] = tt
kept_pass p (x ∷ xs) = by_test (kept_pass p xs) (cases_Bool (p x))
  where
    by_test : AllByRecursion (λ (e : Entry). p e ≡ true) (filter p xs) → (p x ≡ true) ⊎ (p x ≡ false) → AllByRecursion (λ (e : Entry). p e ≡ true) (filter p (x ∷ xs))
    by_test rest (inl passes) = rw passes (passes, rest)
    by_test rest (inr stopped) = rw stopped rest

module _ (plan : PlanRec) (l : ℕ) where
  -- what a stretch carries was sent in it
  pub history_from : (from to : Slot) → AllFrom from (history plan l from to)
  history_from from to =
      all_weaker (λ (e : Entry). is_sent_within from to e ≡ true) (λ (e : Entry). from ≤ e.slot)
      (λ e h. leb-true from e.slot (and_parts (leb from e.slot) (ltb e.slot to) h).0) (history plan l from to) (kept_pass (is_sent_within from to) (upto plan l to))

  pub history_before : (from to : Slot) → AllBefore to (history plan l from to)
  history_before from to =
      all_weaker (λ (e : Entry). is_sent_within from to e ≡ true) (λ (e : Entry). e.slot < to)
      (λ e h. ltb-true e.slot to (and_parts (leb from e.slot) (ltb e.slot to) h).1) (history plan l from to) (kept_pass (is_sent_within from to) (upto plan l to))

  module _ (slot delay : ℕ) (least : 1 ≤ delay) where
    abbrev last : Slot
    last = suc slot - delay

    -- of a stretch that goes on past the last slot that has arrived by now, what was sent before that slot has arrived
    pub arrived_are : (from to : Slot) → from ≤ last → last ≤ to → arrived_by slot delay (history plan l from to) ≡ history plan l from last
    arrived_are from to first later =
        let test : Entry → Bool = λ (e : Entry). leb (e.slot + delay) slot in
        let early = history plan l from last in
        let late = history plan l last to in
        let all = all_weaker (λ (e : Entry). e.slot < last) (λ (e : Entry). test e ≡ true) (λ e h. le-leb (e.slot + delay) slot (omega (arith, h))) early (history_before from last) in
        let none = all_weaker (λ (e : Entry). last ≤ e.slot) (λ (e : Entry). test e ≡ false) (λ e h. lt-leb (e.slot + delay) slot (omega (arith, h))) late (history_from last to) in
        ap (filter test) (sym (histories_grow plan l from last to first later))
        ∙ filter-append test early late
        ∙ (λ i. filter_every test early all i ++ filter_none test late none i)
        ∙ append-nil early

pub wires_show_later : WiresShowLater
wires_show_later plan l slot least =
    let delay = delay_of plan l in
    ap (λ es. level_after 0 (arrived_by slot delay es)) (sym (histories_are_whole plan l slot))
    ∙ ap (level_after 0) (arrived_are plan l slot delay least 0 slot (omega arith) (omega (arith, least)))

pub levels_come : LevelsCome
levels_come plan l seen slot least ahead =
    let delay = delay_of plan l in
    ap (level_after (level_before plan l (slot - delay))) (seen_arrives plan l (slot - delay) seen slot least (omega arith) ahead ∙ arrives_later plan l slot least)
    ∙ levels_go_on plan l (slot - delay) (suc slot - delay) (omega arith)
    ∙ sym (wires_show_later plan l slot least)

pub seen_levels : SeenLevels
seen_levels plan l from seen slot least known ahead =
    let delay = delay_of plan l in
    ap (level_after (level_before plan l from)) (arrived_are plan l slot delay least from seen known (omega (arith, ahead)))
    ∙ levels_go_on plan l from (suc slot - delay) known
    ∙ sym (wires_show_later plan l slot least)

-- ---- One slot

-- what an arc carries in a slot is what is put after its history there
pub carried_in : (plan : PlanRec) (l slot : ℕ) → history plan l slot (suc slot) ≡ new_in plan l slot
carried_in plan l slot =
    let test = is_sent_within slot (suc slot) in
    let early = all_weaker (λ (e : Entry). e.slot < slot) (λ (e : Entry). test e ≡ false) (λ e h. within_early slot (suc slot) e h) (upto plan l slot) (sent_before plan l slot) in
    let all = all_weaker (λ (e : Entry). e.slot ≡ slot) (λ (e : Entry). test e ≡ true)
    (λ e h. within_yes slot (suc slot) e (omega (arith, h)) (omega (arith, h))) (new_in plan l slot) (new_are_in plan l slot) in
    ap (filter test) (goes_on plan l slot)
    ∙ filter-append test (upto plan l slot) (new_in plan l slot)
    ∙ ap (λ h. h ++ filter test (new_in plan l slot)) (filter_none test (upto plan l slot) early)
    ∙ filter_every test (new_in plan l slot) all

-- ---- How much a slot carries

token_count : (slot : ℕ) (token : Option Token) → length (token_entries slot token) ≤ 1
token_count slot None = omega arith
token_count slot (Some t) = omega arith

credit_count : (slot : ℕ) (credit : Bool) → length (credit_entries slot credit) ≤ 1
credit_count slot false = omega arith
credit_count slot true = omega arith

level_count : (slot before after : ℕ) → length (level_entries slot before after) ≤ 1
level_count slot before after = by_same (eqb after before)
  where
    by_same : (same : Bool) → length {A = Entry} (cond same [] (record { slot = slot; what = what.Level after } ∷ [])) ≤ 1
    by_same true = omega arith
    by_same false = omega arith

carried_count : (slot : ℕ) (before after : NodeRec) (emitted : Emitted) (end : ℕ) (joins : Option Joined) → length (carried_by slot before after emitted end joins) ≤ 2
carried_count slot before after emitted end None =
    let token = slice_index_or emitted.tokens end None in
    let credit = slice_index_or emitted.credits end false in
    omega (arith, length-append (token_entries slot token) (credit_entries slot credit), token_count slot token, credit_count slot credit)
carried_count slot before after emitted end (Some joined) = omega (arith, level_count slot (driven_level before joined.from_port) (driven_level after joined.from_port))

added_count : (slot : ℕ) (nodes : List NodeRec) (steps : List Stepped) (d : Option Arc) → length (added slot nodes steps d) ≤ 2
added_count slot nodes steps None = omega arith
added_count slot nodes steps (Some d) = carried_count slot (node_by nodes d.from) (node_by (map (λ (s : Stepped). s.rec) steps) d.from) (emitted_by steps d.from) d.from_end d.joins

pub slots_carry_few : SlotsCarryFew
slots_carry_few plan l slot =
    subst (CarriesFew slot) (sym (carried_in plan l slot)) (record {
      few = added_count slot (serial plan slot).nodes (steps_of plan slot (serial plan slot)) (slice_get (arcs plan) l);
      in_slot = new_are_in plan l slot;
    })
