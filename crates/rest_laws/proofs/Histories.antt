-- What an arc carried before a slot and from it on: what has arrived before the slot, what is in flight, and what is sent later.
use Rattle.std.proofs.Common.{ℕ, zero, suc, ◌≡◌, ◌+◌, ◌-◌, ◌<◌, ◌≤◌, Bool, true, false, eqb, ltb, leb, Option, Some, None, List, [], ◌∷◌, ◌++◌, length, map, get_or, slice_get, refl, ap, sym, ◌∙◌, arith, inl, inr}
use mathlib.Core.Logic.{◌⊎◌}
use Rattle.std.specs.List.{AllByRecursion, filter}
use Rattle.std.proofs.lemmas.Bool.{and_parts, ltb-true, lt-ltb, le-ltb, le-leb, lt-leb, ne_eqb, cases_lt, cases_Bool}
use Rattle.std.proofs.lemmas.List.{append_assoc, length-append}
use Rattle.std.proofs.lemmas.List.Elements.{filter-append}
use Rattle.std.proofs.lemmas.Option.{none-some, same_Some}
use Rattle.xs_base.specs.Numbers.{Slot, Word}
use Rattle.xs_base.specs.declared.entry.Entry.{Entry}
use Rattle.sys_plan.specs.Plan.{Arc, Joined}
use Rattle.serial_model.specs.Serial.{is_sent_within, is_credit, arriving, level_or, level_after, level_on}
use Rattle.trace_model.specs.Trace.{is_token, tokens_sent, credits_sent, Sent, sent_in}
use Rattle.link_laws.proofs.TravelLists.{AreBefore, Ascend}
use Rattle.rest_laws.proofs.Lists.{joined}

-- ---- Two tests

module _ (p q : Entry → Bool) where
  none-both : ((e : Entry) → p e ≡ true → q e ≡ false) → (es : List Entry) → filter q (filter p es) ≡ []
  none-both apart [] = refl
  none-both apart (e ∷ es) = by (none-both apart es) (cases_Bool (p e))
    where
      by : filter q (filter p es) ≡ [] → (p e ≡ true) ⊎ (p e ≡ false) → filter q (filter p (e ∷ es)) ≡ []
      by rest (inl is) = rw (is, apart e is) rest
      by rest (inr not) = rw not rest

  all-both : ((e : Entry) → p e ≡ true → q e ≡ true) → (es : List Entry) → filter q (filter p es) ≡ filter p es
  all-both both [] = refl
  all-both both (e ∷ es) = by (all-both both es) (cases_Bool (p e))
    where
      by : filter q (filter p es) ≡ filter p es → (p e ≡ true) ⊎ (p e ≡ false) → filter q (filter p (e ∷ es)) ≡ filter p (e ∷ es)
      by rest (inl is) = rw (is, both e is) (ap (λ l. e ∷ l) rest)
      by rest (inr not) = rw not rest

-- the level that is left by entries, and then by others
level-append : (level : Word) (es others : List Entry) → level_after level (es ++ others) ≡ level_after (level_after level es) others
level-append level [] others = refl
level-append level (e ∷ es) others = level-append (level_or e.what level) es others

-- ---- One arc

abbrev pub AreLater : Slot → List Entry → Type 0
AreLater slot entries = AllByRecursion (λ (e : Entry). slot ≤ e.slot) entries

-- entries that were sent before a slot, none before the one that stands before it
pub record IsSteady (slot : Slot) (history : List Entry) : Type 0 where
  pub before : AreBefore slot history
  pub order : Ascend history

module _ (slot delay : ℕ) where
  abbrev pub arrived : List Entry → List Entry
  arrived history = filter (λ (e : Entry). ltb (e.slot + delay) slot) history

  abbrev pub flying : List Entry → List Entry
  flying history = filter (is_sent_within (slot - delay) slot) history

  none-arrived : (from : ℕ) (es : List Entry) → slot ≤ from + delay → AllByRecursion (λ (e : Entry). from ≤ e.slot) es → arrived es ≡ []
  none-arrived from [] h later = refl
  none-arrived from (e ∷ es) h later = rw (le-ltb (e.slot + delay) slot (omega (arith, h, later.0))) (none-arrived from es h later.1)

  part-step : (e : Entry) (es : List Entry) → e.slot < slot → AllByRecursion (λ (f : Entry). e.slot ≤ f.slot) es → es ≡ arrived es ++ flying es
      → (e.slot + delay < slot) ⊎ (slot ≤ e.slot + delay) → e ∷ es ≡ arrived (e ∷ es) ++ flying (e ∷ es)
  part-step e es before order rest (inl early) =
      let is : ltb (e.slot + delay) slot ≡ true = lt-ltb (e.slot + delay) slot early in
      let not : leb (slot - delay) e.slot ≡ false = lt-leb (slot - delay) e.slot (omega (arith, early)) in
      rw (is, not) (ap (λ l. e ∷ l) rest)
  part-step e es before order rest (inr late) =
      let is : ltb (e.slot + delay) slot ≡ false = le-ltb (e.slot + delay) slot late in
      let from : leb (slot - delay) e.slot ≡ true = le-leb (slot - delay) e.slot (omega (arith, late)) in
      let to : ltb e.slot slot ≡ true = lt-ltb e.slot slot before in
      let none : arrived es ≡ [] = none-arrived e.slot es late order in
      rw (is, from, to) (ap (λ l. e ∷ l) (rest ∙ ap (λ l. l ++ flying es) none) ∙ sym (ap (λ l. l ++ (e ∷ flying es)) none))

  pub parts : (history : List Entry) → AreBefore slot history → Ascend history → history ≡ arrived history ++ flying history
  parts [] before order = refl
  parts (e ∷ es) before order = part-step e es before.0 order.0 (parts es before.1 order.1) (cases_lt (e.slot + delay) slot)

  module _ (history later : List Entry) (is : IsSteady slot history) where
    whole : history ++ later ≡ arrived history ++ (flying history ++ later)
    whole = ap (λ l. l ++ later) (parts history is.before is.order) ∙ append_assoc (arrived history) (flying history) later

    -- from the slot on the same arrives where what has arrived is left out
    pub arrives-later : (t : ℕ) → slot ≤ t → arriving t delay (flying history ++ later) ≡ arriving t delay (history ++ later)
    arrives-later t h =
        let test = λ (e : Entry). eqb (e.slot + delay) t in
        let none = none-both (λ (e : Entry). ltb (e.slot + delay) slot) test (λ e early. ne_eqb (e.slot + delay) t (λ same. omega (arith, h, same, ltb-true (e.slot + delay) slot early))) history in
        sym (ap (filter test) whole
        ∙ (filter-append test (arrived history) (flying history ++ later)
        ∙ ap (λ l. l ++ filter test (flying history ++ later)) none))

    -- and the same is shown where its level is known
    pub shows-later : (t : ℕ) → slot ≤ t → level_on (level_after 0 (arrived history)) t delay (flying history ++ later) ≡ level_on 0 t delay (history ++ later)
    shows-later t h =
        let test = λ (e : Entry). leb (e.slot + delay) t in
        let all = all-both (λ (e : Entry). ltb (e.slot + delay) slot) test (λ e early. le-leb (e.slot + delay) t (omega (arith, h, ltb-true (e.slot + delay) slot early))) history in
        sym (ap (λ l. level_after 0 (filter test l)) whole
        ∙ (ap (level_after 0) (filter-append test (arrived history) (flying history ++ later) ∙ ap (λ l. l ++ filter test (flying history ++ later)) all)
        ∙ level-append 0 (arrived history) (filter test (flying history ++ later))))

    -- ---- How much was sent

    all-later : (es : List Entry) → AreLater slot es → filter (λ (e : Entry). leb slot e.slot) es ≡ es
    all-later [] h = refl
    all-later (e ∷ es) h = rw (le-leb slot e.slot h.0) (ap (λ l. e ∷ l) (all-later es h.1))

    -- what is sent from the slot on
    pub sent-later : AreLater slot later → filter (λ (e : Entry). leb slot e.slot) (flying history ++ later) ≡ later
    sent-later from =
        let test = λ (e : Entry). leb slot e.slot in
        let none = none-both (is_sent_within (slot - delay) slot) test
        (λ e within. lt-leb slot e.slot (ltb-true e.slot slot (and_parts (leb (slot - delay) e.slot) (ltb e.slot slot) within).1)) history in
        filter-append test (flying history) later ∙ (λ i. none i ++ all-later later from i)

    count-later : (test : Entry → Bool) → AreLater slot later → length (filter test history) + length (filter test (filter (λ (e : Entry). leb slot e.slot) (flying history ++ later))) ≡ length (filter test (history ++ later))
    count-later test from =
        ap (λ l. length (filter test history) + length (filter test l)) (sent-later from)
        ∙ sym (ap length (filter-append test history later) ∙ length-append (filter test history) (filter test later))

    abbrev pub sent_since : Sent
    sent_since =
        let since = filter (λ (e : Entry). leb slot e.slot) (flying history ++ later) in
        (tokens_sent history + tokens_sent since, credits_sent history + credits_sent since)

    pub all-sent : AreLater slot later → sent_since ≡ sent_in (history ++ later)
    all-sent from = λ i. (count-later (λ (e : Entry). is_token e.what) from i, count-later (λ (e : Entry). is_credit e.what) from i)

-- ---- All arcs

-- the level that a wire showed in the slot before a slot, by what has arrived
abbrev pub shown_level : Slot → ℕ → Option Joined → List Entry → Word
shown_level slot delay None history = 0
shown_level slot delay (Some joined) history = level_after 0 (arrived slot delay history)

abbrev pub flights : Slot → List Arc → List (List Entry) → List (List Entry)
flights slot (d ∷ ds) (history ∷ histories) = flying slot d.delay history ∷ flights slot ds histories
flights slot _ _ = []

abbrev pub levels : Slot → List Arc → List (List Entry) → List Word
levels slot (d ∷ ds) (history ∷ histories) = shown_level slot d.delay d.joins history ∷ levels slot ds histories
levels slot _ _ = []

abbrev pub delay_at : List Arc → ℕ → ℕ
delay_at ds k = get_or (map (λ (d : Arc). d.delay) ds) k 0

abbrev pub history_at : List (List Entry) → ℕ → List Entry
history_at histories k = get_or histories k []

pub length-flights : (slot : Slot) (ds : List Arc) (histories : List (List Entry)) → length histories ≡ length ds → length (flights slot ds histories) ≡ length ds
length-flights slot [] histories h = refl
length-flights slot (d ∷ ds) [] h = absurd (omega (arith, h))
length-flights slot (d ∷ ds) (history ∷ histories) h = ap suc (length-flights slot ds histories (omega (arith, h)))

module _ (slot t : Slot) (past : slot ≤ t) where
  pub arrive-at : (ds : List Arc) (histories later : List (List Entry)) (k : ℕ) → length histories ≡ length ds → length later ≡ length ds → AllByRecursion (IsSteady slot) histories
      → arriving t (delay_at ds k) (history_at (joined (flights slot ds histories) later) k) ≡ arriving t (delay_at ds k) (history_at (joined histories later) k)
  arrive-at [] [] later k many too steady = refl
  arrive-at [] (history ∷ histories) later k many too steady = absurd (omega (arith, many))
  arrive-at (d ∷ ds) [] later k many too steady = absurd (omega (arith, many))
  arrive-at (d ∷ ds) (history ∷ histories) [] k many too steady = absurd (omega (arith, too))
  arrive-at (d ∷ ds) (history ∷ histories) (more ∷ later) zero many too steady = arrives-later slot d.delay history more steady.0 t past
  arrive-at (d ∷ ds) (history ∷ histories) (more ∷ later) (suc k) many too steady = arrive-at ds histories later k (omega (arith, many)) (omega (arith, too)) steady.1

  show-step : (x : Arc) (history more : List Entry) (joined : Joined) → x.joins ≡ Some joined → IsSteady slot history
      → level_on (shown_level slot x.delay x.joins history) t x.delay (flying slot x.delay history ++ more) ≡ level_on 0 t x.delay (history ++ more)
  show-step x history more joined joins steady = rw joins (shows-later slot x.delay history more steady t past)

  pub show-at : (ds : List Arc) (histories later : List (List Entry)) (k : ℕ) (d : Arc) (joins : Joined) → length histories ≡ length ds → length later ≡ length ds → AllByRecursion (IsSteady slot) histories
      → slice_get ds k ≡ Some d → d.joins ≡ Some joins
      → level_on (get_or (levels slot ds histories) k 0) t (delay_at ds k) (history_at (joined (flights slot ds histories) later) k) ≡ level_on 0 t (delay_at ds k) (history_at (joined histories later) k)
  show-at [] histories later k d joins many too steady here is = absurd (none-some d here)
  show-at (x ∷ ds) [] later k d joins many too steady here is = absurd (omega (arith, many))
  show-at (x ∷ ds) (history ∷ histories) [] k d joins many too steady here is = absurd (omega (arith, too))
  show-at (x ∷ ds) (history ∷ histories) (more ∷ later) zero d joins many too steady here is =
      show-step x history more joins (ap (λ (a : Arc). a.joins) (same_Some x d here) ∙ is) steady.0
  show-at (x ∷ ds) (history ∷ histories) (more ∷ later) (suc k) d joins many too steady here is =
      show-at ds histories later k d joins (omega (arith, many)) (omega (arith, too)) steady.1 here is

-- how much each carried
abbrev pub all_since : Slot → List Arc → List (List Entry) → List (List Entry) → List Sent
all_since slot (d ∷ ds) (history ∷ histories) (rest ∷ rests) =
    (tokens_sent history + tokens_sent (filter (λ (e : Entry). leb slot e.slot) rest), credits_sent history + credits_sent (filter (λ (e : Entry). leb slot e.slot) rest))
    ∷ all_since slot ds histories rests
all_since slot _ _ _ = []

pub sent-all : (slot : Slot) (ds : List Arc) (histories later : List (List Entry)) → length histories ≡ length ds → length later ≡ length ds
    → AllByRecursion (IsSteady slot) histories → AllByRecursion (AreLater slot) later
    → all_since slot ds histories (joined (flights slot ds histories) later) ≡ map sent_in (joined histories later)
sent-all slot [] [] later many too steady from = refl
sent-all slot [] (history ∷ histories) later many too steady from = absurd (omega (arith, many))
sent-all slot (d ∷ ds) [] later many too steady from = absurd (omega (arith, many))
sent-all slot (d ∷ ds) (history ∷ histories) [] many too steady from = absurd (omega (arith, too))
sent-all slot (d ∷ ds) (history ∷ histories) (more ∷ later) many too steady from =
    λ i. all-sent slot d.delay history more steady.0 from.0 i ∷ sent-all slot ds histories later (omega (arith, many)) (omega (arith, too)) steady.1 from.1 i
