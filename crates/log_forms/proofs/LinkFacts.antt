-- The form of a directed link has the logs of which the facts hold.
use Rattle.std.proofs.Common.{◌≡◌, ◌≢◌, ℕ, ◌+◌, ◌-◌, ◌<◌, ◌≤◌, ◌^◌, Bool, true, false, cond, eqb, ltb, leb, ◌&&◌}
use Rattle.std.proofs.Common.{IfSome, Option, Some, None, List, [], ◌∷◌, ◌++◌, length, refl, sym, subst, append_assoc, arith, inl, inr}
use Rattle.std.specs.List.{AllByRecursion, last_or}
use Rattle.std.proofs.lemmas.Bool.{eqb-true, eqb-false, ltb-true, leb-true, lt-ltb, le-leb, eq-eqb, ne_eqb, and_parts, and_from, cases_Bool}
use Rattle.xs_base.specs.Numbers.{Slot}
use Rattle.xs_base.specs.declared.numbers.TheConstants.{WINDOW_TOKENS}
use Rattle.xs_base.specs.declared.token.Token.TheVariants.{Byte, Ctrl}
use Rattle.xs_base.specs.declared.entry.Entry.{Entry}
use Rattle.xs_base.specs.declared.entry.What.{What}
use Rattle.xs_base.specs.declared.entry.What.TheVariants as what
use Rattle.byte_forms.specs.Forms.{HoldInChain}
use Rattle.log_forms.specs.declared.entry.Before.{Before}
use Rattle.snap_parts.specs.InFlight.{is_token, is_credit}
use Rattle.log_forms.specs.Entries.{kind_of, value_of, counts_of, counts_with, before_of, is_in_flight, is_not_before, link_slot, may_follow, value_limit, link_value}
use Rattle.log_forms.specs.Windows.{EndsRec, is_open, windows_fit, law_holds, link_count, link_kind, link_entry}
use Rattle.snap_parts.specs.Parts.{LogRec}
use Rattle.log_forms.specs.Logs.{sums, link_log}
use Rattle.snap_parts.specs.InFlight.{IsOfLink, IsInFlight, ComesBefore}
use Rattle.log_forms.specs.InFlight.{FitWindows, IsLinkLog}
use Rattle.log_forms.proofs.Pushes.{counts_more, last_push, length_push}
use Rattle.log_forms.proofs.Laws.{kind_parts}
use Rattle.log_forms.proofs.Orders.{Follows, Adjacent, stand_so, adjacent, before_through}

-- ---- From what the form has to the facts

yes_case : (b x : Bool) → b ≡ true → cond b x true ≡ true → x ≡ true
yes_case true x h k = k
yes_case false x h k = absurd cc

is_a_credit : (w : What) → kind_of w ≡ 2 → is_credit w ≡ true
is_a_credit (what.Token (Byte b)) h = absurd (omega (arith, h))
is_a_credit (what.Token (Ctrl c)) h = absurd (omega (arith, h))
is_a_credit what.Credit h = refl
is_a_credit (what.Level n) h = absurd (omega (arith, h))

is_of_link : (w : What) → kind_of w < 3 → value_of w < value_limit (kind_of w) → IsOfLink w
is_of_link (what.Token (Byte b)) few small = small
is_of_link (what.Token (Ctrl c)) few small = small
is_of_link what.Credit few small = tt
is_of_link (what.Level n) few small = absurd (omega (arith, few))

follows : (last : Option Entry) (e : Entry) → is_not_before last e.slot ≡ true → may_follow last e.slot (kind_of e.what) ≡ true → Follows ComesBefore last e
follows None e h k = tt
follows (Some l) e h k =
    elim (cases_Bool (eqb l.slot e.slot)) [
      | inl here ↦
          let p = and_parts (is_token l.what) (eqb (kind_of e.what) 2) (yes_case (eqb l.slot e.slot) _ here k) in
          inr (eqb-true l.slot e.slot here, p.0, is_a_credit e.what (eqb-true (kind_of e.what) 2 p.1))
      | inr apart ↦
          let differ : l.slot ≢ e.slot = eqb-false l.slot e.slot apart in
          let le : l.slot ≤ e.slot = leb-true l.slot e.slot h in
          inl (omega (arith, differ, le))
    ]

-- what an entry's form says, of what stands before it
record Says (slot : Slot) (delay : ℕ) (ends : Option EndsRec) (count : ℕ) (before : Before) (e : Entry) : Type 0 where
  flight : IsInFlight slot delay e
  few : kind_of e.what < 3
  kind : IsOfLink e.what
  after : Follows ComesBefore before.last e
  law : cond (eqb (before.place + 1) count) (law_holds ends (counts_with before.counts (kind_of e.what))) true ≡ true

slot_says : (slot : Slot) (delay : ℕ) (last : Option Entry) (at : Slot) → (link_slot slot delay last).Holds at
    → (slot - delay ≤ at) × (at < slot) × (is_not_before last at ≡ true)
unfolding link_slot
slot_says slot delay last at h =
    let p = and_parts (is_in_flight slot delay at) (is_not_before last at) h.1 in
    let q = and_parts (leb (slot - delay) at) (ltb at slot) p.0 in
    (leb-true (slot - delay) at q.0, ltb-true at slot q.1, p.1)

value_says : (kind value : ℕ) → (link_value kind).Holds value → value < value_limit kind
unfolding link_value
value_says kind value h = ltb-true value (value_limit kind) h.1

entry_says : (slot : Slot) (delay : ℕ) (ends : Option EndsRec) (count : ℕ) (before : Before) (e : Entry) → (link_entry slot delay ends count before).Holds e → Says slot delay ends count before e
unfolding link_entry
entry_says slot delay ends count before e h =
    let s = slot_says slot delay before.last e.slot h.0 in
    let k = kind_parts ends count before e.slot (kind_of e.what) h.1.0 in
    record {
      flight = record { sent = s.0; before = s.1 };
      few = k.0;
      kind = is_of_link e.what k.0 (value_says (kind_of e.what) (value_of e.what) h.1.1);
      after = follows before.last e s.2 k.1;
      law = k.2;
    }

module _ (slot : Slot) (delay : ℕ) (ends : Option EndsRec) (count : ℕ) where
  abbrev Hold : List Entry → List Entry → Type 0
  Hold = HoldInChain (λ before. link_entry slot delay ends count (before_of before))

  record AreTold (last : Option Entry) (entries : List Entry) : Type 0 where
    flight : AllByRecursion (IsInFlight slot delay) entries
    kinds : AllByRecursion (λ e. IsOfLink e.what) entries
    order : Adjacent ComesBefore last entries

  chain_says : (before more : List Entry) → Hold before more → AreTold (last_or None before) more
  unfolding HoldInChain
  chain_says before [] h = record { flight = tt; kinds = tt; order = tt }
  chain_says before (e ∷ more) h =
      let s = entry_says slot delay ends count (before_of before) e h.0 in
      let r = subst (λ (last : Option Entry). AreTold last more) (last_push None before e) (chain_says (before ++ e ∷ []) more h.1) in
      record { flight = (s.flight, r.flight); kinds = (s.kind, r.kinds); order = (s.after, r.order) }

  law_at_end : (before : List Entry) (e : Entry) (more : List Entry) → length before + length (e ∷ more) ≡ count → Hold before (e ∷ more) → law_holds ends (counts_of (before ++ e ∷ more)) ≡ true
  unfolding HoldInChain
  law_at_end before e [] len h =
      let s = entry_says slot delay ends count (before_of before) e h.0 in
      let last : eqb (length before + 1) count ≡ true = eq-eqb _ _ len in
      rw (counts_more before e s.few) (yes_case _ _ last s.law)
  law_at_end before e (f ∷ more) len h =
      let len' : length (before ++ e ∷ []) + length (f ∷ more) ≡ count = omega (arith, len, length_push before e) in
      subst (λ (all : List Entry). law_holds ends (counts_of all) ≡ true) (append_assoc before (e ∷ []) (f ∷ more)) (law_at_end (before ++ e ∷ []) f more len' h.1)

windows_say : (ends : EndsRec) (back : List Entry) → windows_fit ends (counts_of back) ≡ true → FitWindows ends back
windows_say ends back h =
    let a = is_open ends.a.window (counts_of ends.forth).tokens ends.b.buffered (counts_of back).credits in
    let b = is_open ends.b.window (counts_of back).tokens ends.a.buffered (counts_of ends.forth).credits in
    let p = and_parts ((a && b) && leb ends.a.window WINDOW_TOKENS) (leb ends.b.window WINDOW_TOKENS) h in
    let q = and_parts (a && b) (leb ends.a.window WINDOW_TOKENS) p.0 in
    let r = and_parts a b q.0 in
    record {
      most_a = leb-true ends.a.window WINDOW_TOKENS q.1;
      most_b = leb-true ends.b.window WINDOW_TOKENS p.1;
      sum_a = eqb-true _ _ r.0;
      sum_b = eqb-true _ _ r.1;
    }

law_says : (ends : Option EndsRec) (back : List Entry) → law_holds ends (counts_of back) ≡ true → IfSome ends (λ e. FitWindows e back)
law_says None back h = tt
law_says (Some ends) back h = windows_say ends back h

-- the law is tested at the count or at the last kind
law_of_all : (slot : Slot) (delay : ℕ) (ends : Option EndsRec) (entries : List Entry) → (link_count ends).Holds (length entries) → Hold slot delay ends (length entries) [] entries
    → law_holds ends (counts_of entries) ≡ true
unfolding link_count
law_of_all slot delay ends [] h k = h.1
law_of_all slot delay ends (e ∷ more) h k = law_at_end slot delay ends (length (e ∷ more)) [] e more (omega arith) k

count_says : (ends : Option EndsRec) (count : ℕ) → (link_count ends).Holds count → count < 2 ^ 32
unfolding link_count
count_says ends count h = h.0

pub record AreSums (limit : ℕ) (log : LogRec) : Type 0 where
  pub tokens : log.tokens < 2 ^ 63
  pub credits : log.credits < 2 ^ 63
  pub level : log.level < limit

pub sums_say : (limit : ℕ) (log : LogRec) → (sums limit).Holds (log.tokens, (log.credits, log.level)) → AreSums limit log
unfolding sums
sums_say limit log h =
    record { tokens = ltb-true log.tokens (2 ^ 63) h.0.1; credits = ltb-true log.credits (2 ^ 63) h.1.0.1; level = ltb-true log.level limit h.1.1.1 }

pub link_facts : (slot : Slot) (delay : ℕ) (ends : Option EndsRec) (log : LogRec) → (link_log slot delay ends).Holds log → IsLinkLog slot delay ends log
unfolding link_log
link_facts slot delay ends log h =
    let told = chain_says slot delay ends (length log.entries) [] log.entries h.0.1.1 in
    let rest = sums_say 1 log h.1 in
    record {
      count = count_says ends (length log.entries) h.0.0;
      entries = record { in_flight = told.flight; kinds = told.kinds; order = stand_so ComesBefore before_through log.entries told.order };
      windows = law_says ends log.entries (law_of_all slot delay ends log.entries h.0.0 h.0.1.1);
      tokens = rest.tokens;
      credits = rest.credits;
      level = omega (arith, rest.level);
    }

-- ---- From the facts to what the form has

not_before : (last : Option Entry) (e : Entry) → Follows ComesBefore last e → is_not_before last e.slot ≡ true
not_before None e h = refl
not_before (Some l) e (inl h) = le-leb l.slot e.slot (omega (arith, h))
not_before (Some l) e (inr h) = le-leb l.slot e.slot (omega (arith, h.0))

kind_of_credit : (w : What) → is_credit w ≡ true → kind_of w ≡ 2
kind_of_credit (what.Token t) h = absurd cc
kind_of_credit what.Credit h = refl
kind_of_credit (what.Level n) h = absurd cc

may_stand : (last : Option Entry) (e : Entry) → Follows ComesBefore last e → may_follow last e.slot (kind_of e.what) ≡ true
may_stand None e h = refl
may_stand (Some l) e (inl h) =
    let apart : eqb l.slot e.slot ≡ false = ne_eqb l.slot e.slot (λ is. omega (arith, h, is)) in
    rw apart refl
may_stand (Some l) e (inr h) =
    let here : eqb l.slot e.slot ≡ true = eq-eqb l.slot e.slot h.0 in
    rw here (and_from (is_token l.what) (eqb (kind_of e.what) 2) h.1 (eq-eqb (kind_of e.what) 2 (kind_of_credit e.what h.2)))

kind_fits : (w : What) → IsOfLink w → (kind_of w < 3) × (value_of w < value_limit (kind_of w))
kind_fits (what.Token (Byte b)) h = (omega arith, h)
kind_fits (what.Token (Ctrl c)) h = (omega arith, h)
kind_fits what.Credit h = (omega arith, omega arith)
kind_fits (what.Level n) h = absurd h

slot_holds : (slot : Slot) (delay : ℕ) (last : Option Entry) (at : Slot) → slot < 2 ^ 32 → slot - delay ≤ at → at < slot → is_not_before last at ≡ true → (link_slot slot delay last).Holds at
unfolding link_slot
slot_holds slot delay last at fits sent lt after =
    let small : at < 2 ^ 32 = omega (arith, fits, lt) in
    (small, and_from _ _ (and_from _ _ (le-leb (slot - delay) at sent) (lt-ltb at slot lt)) after)

kind_holds : (ends : Option EndsRec) (count : ℕ) (before : Before) (at kind : ℕ) → kind < 3 → may_follow before.last at kind ≡ true
    → cond (eqb (before.place + 1) count) (law_holds ends (counts_with before.counts kind)) true ≡ true → (link_kind ends count before at).Holds kind
unfolding link_kind
kind_holds ends count before at kind few after law =
    let small : kind < 256 = omega (arith, few) in
    (small, and_from _ _ (and_from _ _ (lt-ltb kind 3 few) after) law)

limit_at_most : (b : Bool) → cond b 1 256 ≤ 256
limit_at_most true = omega arith
limit_at_most false = omega arith

value_holds : (kind value : ℕ) → value < value_limit kind → (link_value kind).Holds value
unfolding link_value
value_holds kind value lt =
    let most : value_limit kind ≤ 256 = limit_at_most (eqb kind 2) in
    let small : value < 2 ^ 32 = omega (arith, lt, most) in
    (small, lt-ltb value (value_limit kind) lt)

entry_holds : (slot : Slot) (delay : ℕ) (ends : Option EndsRec) (count : ℕ) (before : Before) (e : Entry) → slot < 2 ^ 32
    → IsInFlight slot delay e → IsOfLink e.what → Follows ComesBefore before.last e
    → cond (eqb (before.place + 1) count) (law_holds ends (counts_with before.counts (kind_of e.what))) true ≡ true → (link_entry slot delay ends count before).Holds e
unfolding link_entry
entry_holds slot delay ends count before e fits flight kind after law =
    let k = kind_fits e.what kind in (
      slot_holds slot delay before.last e.slot fits flight.sent flight.before (not_before before.last e after),
      (kind_holds ends count before e.slot (kind_of e.what) k.0 (may_stand before.last e after) law, value_holds (kind_of e.what) (value_of e.what) k.1),
    )

module _ (slot : Slot) (delay : ℕ) (ends : Option EndsRec) (count : ℕ) (fits : slot < 2 ^ 32) where
  law_at : (before : List Entry) (e : Entry) (more : List Entry) → kind_of e.what < 3 → length before + length (e ∷ more) ≡ count → law_holds ends (counts_of (before ++ e ∷ more)) ≡ true
      → cond (eqb (length before + 1) count) (law_holds ends (counts_with (counts_of before) (kind_of e.what))) true ≡ true
  law_at before e [] few len law =
      let last : eqb (length before + 1) count ≡ true = eq-eqb _ _ len in
      rw (last, ← counts_more before e few) law
  law_at before e (f ∷ more) few len law =
      let apart : eqb (length before + 1) count ≡ false = ne_eqb (length before + 1) count (λ is. omega (arith, len, is)) in
      rw apart refl

  chain_holds : (before more : List Entry) → length before + length more ≡ count → AllByRecursion (IsInFlight slot delay) more → AllByRecursion (λ e. IsOfLink e.what) more
      → Adjacent ComesBefore (last_or None before) more → law_holds ends (counts_of (before ++ more)) ≡ true → Hold slot delay ends count before more
  unfolding HoldInChain
  chain_holds before [] len flight kinds order law = tt
  chain_holds before (e ∷ more) len flight kinds order law =
      let len' : length (before ++ e ∷ []) + length more ≡ count = omega (arith, len, length_push before e) in
      let order' = subst (λ (last : Option Entry). Adjacent ComesBefore last more) (sym (last_push None before e)) order.1 in
      let law' = subst (λ (all : List Entry). law_holds ends (counts_of all) ≡ true) (sym (append_assoc before (e ∷ []) more)) law in (
        entry_holds slot delay ends count (before_of before) e fits flight.0 kinds.0 order.0 (law_at before e more (kind_fits e.what kinds.0).0 len law),
        chain_holds (before ++ e ∷ []) more len' flight.1 kinds.1 order' law',
      )

law_from : (ends : Option EndsRec) (back : List Entry) → IfSome ends (λ e. FitWindows e back) → law_holds ends (counts_of back) ≡ true
law_from None back h = refl
law_from (Some ends) back h =
    and_from _ _ (and_from _ _ (and_from _ _ (eq-eqb _ _ h.sum_a) (eq-eqb _ _ h.sum_b)) (le-leb _ _ h.most_a)) (le-leb _ _ h.most_b)

count_holds : (ends : Option EndsRec) (entries : List Entry) → length entries < 2 ^ 32 → law_holds ends (counts_of entries) ≡ true → (link_count ends).Holds (length entries)
unfolding link_count
count_holds ends [] few law = (few, law)
count_holds ends (e ∷ more) few law =
    let some : eqb (length (e ∷ more)) 0 ≡ false = ne_eqb (length (e ∷ more)) 0 (λ is. omega (arith, is)) in
    (few, rw some refl)

pub sums_hold : (limit : ℕ) (log : LogRec) → limit ≤ 2 ^ 32 → AreSums limit log → (sums limit).Holds (log.tokens, (log.credits, log.level))
unfolding sums
sums_hold limit log most h =
    let tokens : log.tokens < 2 ^ 64 = omega (arith, h.tokens) in
    let credits : log.credits < 2 ^ 64 = omega (arith, h.credits) in
    let level : log.level < 2 ^ 32 = omega (arith, h.level, most) in
    ((tokens, lt-ltb _ _ h.tokens), ((credits, lt-ltb _ _ h.credits), (level, lt-ltb _ _ h.level)))

pub link_from_facts : (slot : Slot) (delay : ℕ) (ends : Option EndsRec) (log : LogRec) → slot < 2 ^ 32 → IsLinkLog slot delay ends log → (link_log slot delay ends).Holds log
unfolding link_log
link_from_facts slot delay ends log fits h =
    let law = law_from ends log.entries h.windows in
    let told = chain_holds slot delay ends (length log.entries) fits [] log.entries (omega arith) h.entries.in_flight h.entries.kinds (adjacent ComesBefore log.entries h.entries.order) law in
    ((count_holds ends log.entries h.count law, (refl, told)), sums_hold 1 log (omega arith) (record { tokens = h.tokens; credits = h.credits; level = omega (arith, h.level) }))
