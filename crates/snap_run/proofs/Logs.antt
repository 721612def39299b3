-- What is kept of an arc entry by entry is what a snapshot keeps of its history.
use Rattle.std.proofs.Common.{◌≡◌, ℕ, zero, suc, ◌+◌, ◌-◌, ◌<◌, ◌≤◌, ◌⊎◌, inl, inr, Bool, true, false, leb, ltb, cond, Option, Some, None, List, [], ◌∷◌, ◌++◌, length, filter, take, get_or, refl, sym, ap, ◌∙◌, arith}
use Rattle.std.proofs.lemmas.Bool.{cases_Bool, leb-true, leb-false, lt-ltb, le-ltb}
use Rattle.std.proofs.lemmas.List.{append-nil, length-append, take_more}
use Rattle.std.proofs.lemmas.List.Elements.{filter-append}
use Rattle.std.specs.List.{AllByRecursion}
use Rattle.xs_base.specs.Numbers.{Slot, Word}
use Rattle.xs_base.specs.declared.entry.Entry.{Entry}
use Rattle.sys_plan.specs.Plan.{Arc, Joined, arcs}
use Rattle.serial_model.specs.Serial.{is_sent_within, is_credit, level_or, level_after}
use Rattle.trace_model.specs.Trace.{is_token, tokens_sent, credits_sent}
use Rattle.snap_parts.specs.Parts.{LogRec}
use Rattle.snap_model.specs.Saved.{arrived_before, saved_level, saved_log, saved_logs}
use Rattle.snap_run.specs.Keeping.{is_wire, level_with, log_with}
use Rattle.snap_run.proofs.Lists.{zipped}

level_more : (level : Word) (es : List Entry) (e : Entry) → level_after level (es ++ e ∷ []) ≡ level_or e.what (level_after level es)
level_more level [] e = refl
level_more level (x ∷ es) e = level_more (level_or x.what level) es e

module _ (p : Entry → Bool) (es : List Entry) (e : Entry) where
  more_yes : p e ≡ true → filter p (es ++ e ∷ []) ≡ filter p es ++ e ∷ []
  more_yes is = filter-append p es (e ∷ []) ∙ rw is refl

  more_no : p e ≡ false → filter p (es ++ e ∷ []) ≡ filter p es
  more_no not = filter-append p es (e ∷ []) ∙ rw not (append-nil (filter p es))

tokens_more : (es : List Entry) (e : Entry) → tokens_sent (es ++ e ∷ []) ≡ cond (is_credit e.what) (tokens_sent es) (tokens_sent es + 1)
tokens_more es e = by_test (cases_Bool (is_credit e.what))
  where
    by_test : (is_credit e.what ≡ true) ⊎ (is_credit e.what ≡ false) → tokens_sent (es ++ e ∷ []) ≡ cond (is_credit e.what) (tokens_sent es) (tokens_sent es + 1)
    by_test (inl is) = rw is (ap length (more_no (λ (x : Entry). is_token x.what) es e (rw is refl)))
    by_test (inr not) = rw not (ap length (more_yes (λ (x : Entry). is_token x.what) es e (rw not refl)) ∙ length-append (filter (λ (x : Entry). is_token x.what) es) (e ∷ []))

credits_more : (es : List Entry) (e : Entry) → credits_sent (es ++ e ∷ []) ≡ cond (is_credit e.what) (credits_sent es + 1) (credits_sent es)
credits_more es e = by_test (cases_Bool (is_credit e.what))
  where
    by_test : (is_credit e.what ≡ true) ⊎ (is_credit e.what ≡ false) → credits_sent (es ++ e ∷ []) ≡ cond (is_credit e.what) (credits_sent es + 1) (credits_sent es)
    by_test (inl is) = rw is (ap length (more_yes (λ (x : Entry). is_credit x.what) es e is) ∙ length-append (filter (λ (x : Entry). is_credit x.what) es) (e ∷ []))
    by_test (inr not) = rw not (ap length (more_no (λ (x : Entry). is_credit x.what) es e not))

module _ (slot : Slot) (delay : ℕ) (es : List Entry) (e : Entry) where
  abbrev from : Slot
  from = slot - delay

  entries_more : e.slot < slot
      → filter (is_sent_within from slot) (es ++ e ∷ []) ≡ cond (leb from e.slot) (filter (is_sent_within from slot) es ++ e ∷ []) (filter (is_sent_within from slot) es)
  entries_more before = by_test (cases_Bool (leb from e.slot))
    where
      by_test : (leb from e.slot ≡ true) ⊎ (leb from e.slot ≡ false)
          → filter (is_sent_within from slot) (es ++ e ∷ []) ≡ cond (leb from e.slot) (filter (is_sent_within from slot) es ++ e ∷ []) (filter (is_sent_within from slot) es)
      by_test (inl is) = rw is (more_yes (is_sent_within from slot) es e (rw (is, lt-ltb e.slot slot before) refl))
      by_test (inr not) = rw not (more_no (is_sent_within from slot) es e (rw not refl))

  shown_more : (joins : Option Joined) → saved_level slot delay joins (es ++ e ∷ []) ≡ level_with from (is_wire joins) (saved_level slot delay joins es) e
  shown_more None = by_test (cases_Bool (leb from e.slot))
    where
      by_test : (leb from e.slot ≡ true) ⊎ (leb from e.slot ≡ false) → 0 ≡ level_with from false 0 e
      by_test (inl is) = rw is refl
      by_test (inr not) = rw not refl
  shown_more (Some joined) = by_test (cases_Bool (leb from e.slot))
    where
      by_test : (leb from e.slot ≡ true) ⊎ (leb from e.slot ≡ false)
          → level_after 0 (arrived_before slot delay (es ++ e ∷ [])) ≡ level_with from true (level_after 0 (arrived_before slot delay es)) e
      by_test (inl is) =
          let later : ltb (e.slot + delay) slot ≡ false = le-ltb (e.slot + delay) slot (omega (arith, leb-true from e.slot is)) in
          rw is (ap (level_after 0) (more_no (λ (x : Entry). ltb (x.slot + delay) slot) es e later))
      by_test (inr not) =
          let arrived : ltb (e.slot + delay) slot ≡ true = lt-ltb (e.slot + delay) slot (omega (arith, leb-false from e.slot not)) in
          rw not (ap (level_after 0) (more_yes (λ (x : Entry). ltb (x.slot + delay) slot) es e arrived) ∙ level_more 0 (arrived_before slot delay es) e)

-- of a history with one more entry
pub saved_more : (slot : Slot) (d : Arc) (es : List Entry) (e : Entry) → e.slot < slot
    → saved_log slot d (es ++ e ∷ []) ≡ log_with (slot - d.delay) (is_wire d.joins) (saved_log slot d es) e
saved_more slot d es e before =
    let entries = entries_more slot d.delay es e before in
    let tokens = tokens_more es e in
    let credits = credits_more es e in
    let level = shown_more slot d.delay es e d.joins in
    λ i. record { entries = entries i; tokens = tokens i; credits = credits i; level = level i }

all_at : (P : Entry → Type 0) (es : List Entry) (i : ℕ) (d : Entry) → AllByRecursion P es → i < length es → P (get_or es i d)
all_at P [] i d all h = absurd (omega (arith, h))
all_at P (e ∷ es) zero d all h = all.0
all_at P (e ∷ es) (suc i) d all h = all_at P es i d all.1 (omega (arith, h))

-- a step of the loop over a history
pub kept_more : (slot : Slot) (d : Arc) (h : List Entry) (i : ℕ) (default : Entry) (first : Slot) (wire : Bool) (old new : LogRec) → new ≡ log_with first wire old (get_or h i default)
    → first ≡ slot - d.delay → is_wire d.joins ≡ wire → old ≡ saved_log slot d (take i h) → AllByRecursion (λ (e : Entry). e.slot < slot) h → i < length h
    → new ≡ saved_log slot d (take (i + 1) h)
kept_more slot d h i default first wire old new kept since joins was before inside =
    let e = get_or h i default in
    kept
    ∙ (λ j. log_with (since j) (sym joins j) (was j) e)
    ∙ sym (saved_more slot d (take i h) e (all_at (λ (x : Entry). x.slot < slot) h i default before inside))
    ∙ ap (saved_log slot d) (sym (take_more h i default inside))

-- it counts one more
pub sum_more : (from : Slot) (wire : Bool) (old new : LogRec) (e : Entry) → new ≡ log_with from wire old e → new.tokens + new.credits ≡ old.tokens + old.credits + 1
sum_more from wire old new e kept = by_test (cases_Bool (is_credit e.what))
  where
    tokens : new.tokens ≡ cond (is_credit e.what) old.tokens (old.tokens + 1)
    tokens = ap (λ (log : LogRec). log.tokens) kept

    credits : new.credits ≡ cond (is_credit e.what) (old.credits + 1) old.credits
    credits = ap (λ (log : LogRec). log.credits) kept

    by_test : (is_credit e.what ≡ true) ⊎ (is_credit e.what ≡ false) → new.tokens + new.credits ≡ old.tokens + old.credits + 1
    by_test (inl is) = let t = rw is at tokens in let c = rw is at credits in omega (arith, t, c)
    by_test (inr not) = let t = rw not at tokens in let c = rw not at credits in omega (arith, t, c)

-- what is kept of arcs side by side with their histories
pub logs_zipped : (slot : Slot) (ds : List Arc) (histories : List (List Entry)) → saved_logs slot ds histories ≡ zipped (saved_log slot) ds histories
logs_zipped slot [] histories = refl
logs_zipped slot (d ∷ ds) [] = refl
logs_zipped slot (d ∷ ds) (h ∷ histories) = ap (λ logs. saved_log slot d h ∷ logs) (logs_zipped slot ds histories)
