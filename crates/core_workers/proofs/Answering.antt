-- What is so where a turn answers: what stops the node, and what was not published.
use Rattle.std.proofs.Common.{◌≡◌, ℕ, zero, suc, ◌+◌, ◌<◌, Bool, true, false, not, cond, eqb, ◌&&◌, Some, None, List, [], ◌∷◌, ◌++◌, length, map, get_or, slice_get, refl, sym, ap, ◌∙◌, subst, arith, inl, inr}
use mathlib.Core.Logic.{◌⊎◌}
use Rattle.std.specs.List.{All, AllByRecursion, Contains, filter}
use Rattle.std.proofs.lemmas.Bool.{cases_eq, eq-eqb, ne_eqb}
use Rattle.std.proofs.lemmas.Option.{none-some, same_Some, slice_get_within, slice_get-get_or}
use Rattle.std.proofs.lemmas.List.Elements.{All-from_recursion, recursion_from_All}
use Rattle.xs_base.specs.Numbers.{Slot, EndNumber}
use Rattle.sys_plan.specs.Plan.{IsPlan, arcs, arc_count, delay_of}
use Rattle.sys_plan.proofs.Routes.{leads-to}
use Rattle.ahead_limits.specs.Horizon.{StopsAt, horizon_at}
use Rattle.node_runners.specs.Runner.{RunnerRec}
use Rattle.plan_cells.specs.declared.ends.Incoming.{Incoming}
use Rattle.plan_cells.specs.declared.ends.Outgoing.{Outgoing}
use Rattle.plan_cells.specs.Ends.{CellsRec}
use Rattle.core_workers.specs.declared.turn.Turn.{Turn}
use Rattle.core_workers.specs.declared.turn.Turn.TheVariants.{Ran, Blocked, Busy, Finished, Stopped, Memory}
use Rattle.core_workers.specs.Worker.{Listens, stops_here, stopping_ends, is_behind, unheard_ends, untold_ends, IsLeast, Outcome, IsAllDone, IsIdle, IsUnexplained, AnswersBy}
use Rattle.core_workers.specs.Steps.{AreOfPlan, Explains, NamesLeast}
use Rattle.core_workers.proofs.Exchanges.{ReadsThere, reads_there}
use Rattle.core_workers.proofs.Routes.{comes_by}

-- ---- Those of a list that pass a test

module _ {X : Type 0} (test : X → Bool) (number : X → ℕ) where
  abbrev numbers : List X → List ℕ
  numbers xs = map number (filter test xs)

  is_none : (n : ℕ) (ns : List ℕ) → n ∷ ns ≡ [] → ⊥
  is_none n ns none = absurd (omega (arith, ap (length {A = ℕ}) none))

  later : (x : X) (xs : List X) (b : Bool) → map number (cond b (x ∷ filter test xs) (filter test xs)) ≡ [] → numbers xs ≡ []
  later x xs true none = absurd (is_none (number x) (numbers xs) none)
  later x xs false none = none

  pub some_passes : (xs : List X) (k : ℕ) (x : X) → slice_get xs k ≡ Some x → test x ≡ true → numbers xs ≡ [] → ⊥
  some_passes [] k x at passes none = none-some x at
  some_passes (y ∷ xs) zero x at passes none =
      let is : test y ≡ true = ap test (same_Some y x at) ∙ passes in
      is_none (number y) (numbers xs) (sym (ap (λ b. map number (cond b (y ∷ filter test xs) (filter test xs))) is) ∙ none)
  some_passes (y ∷ xs) (suc k) x at passes none = some_passes xs k x at passes (later y xs (test y) none)

-- ---- What is published

module _ (slot : Slot) where
  told_one : (o : Outgoing) (os : List Outgoing) → (o.w.end.published ≡ slot) ⊎ (o.w.end.published ≡ slot → ⊥) → untold_ends slot (o ∷ os) ≡ [] → o.w.end.published ≡ slot
  told_one o os (inl is) none = is
  told_one o os (inr apart) none = absurd (some_passes (is_behind slot) (λ (x : Outgoing). x.end) (o ∷ os) 0 o refl (ap not (ne_eqb o.w.end.published slot apart)) none)

  told_each : (os : List Outgoing) → untold_ends slot os ≡ [] → AllByRecursion (λ (o : Outgoing). o.w.end.published ≡ slot) os
  told_each [] none = tt
  told_each (o ∷ os) none =
      (told_one o os (cases_eq o.w.end.published slot) none, told_each os (later (is_behind slot) (λ (x : Outgoing). x.end) o os (is_behind slot o) none))

  pub all_told : (os : List Outgoing) → untold_ends slot os ≡ [] → All (λ (o : Outgoing). o.w.end.published ≡ slot) os
  all_told os none = All-from_recursion (λ (o : Outgoing). o.w.end.published ≡ slot) os (told_each os none)

  none_untold : (os : List Outgoing) → AllByRecursion (λ (o : Outgoing). o.w.end.published ≡ slot) os → untold_ends slot os ≡ []
  none_untold [] all = refl
  none_untold (o ∷ os) all =
      ap (λ b. map (λ (x : Outgoing). x.end) (cond b (o ∷ filter (is_behind slot) os) (filter (is_behind slot) os))) (ap not (eq-eqb o.w.end.published slot all.0)) ∙ none_untold os all.1

  pub not_all_told : (os : List Outgoing) (end : EndNumber) → Contains (untold_ends slot os) end → All (λ (o : Outgoing). o.w.end.published ≡ slot) os → ⊥
  not_all_told os end some all =
      let none = none_untold os (recursion_from_All (λ (o : Outgoing). o.w.end.published ≡ slot) os all) in
      absurd (omega (arith, some.1, ap (length {A = EndNumber}) none))

-- not all is published where this is the least end of what is not
pub not_all_done : (clock limit : Slot) (os xs : List Outgoing) (end : EndNumber) → xs ≡ os → IsLeast end (untold_ends clock xs) → (clock ≡ limit) × All (λ (o : Outgoing). o.w.end.published ≡ limit) os → ⊥
not_all_done clock limit os xs end same least done =
    not_all_told clock xs end least.0
    (subst (λ (v : List Outgoing). All (λ (o : Outgoing). o.w.end.published ≡ clock) v) (sym same) (subst (λ s. All (λ (o : Outgoing). o.w.end.published ≡ s) os) (sym done.0) done.1))

-- ---- What stops the node

module _ (cells : CellsRec) (is : IsPlan cells.plan) (runner : RunnerRec) (ends : List Incoming) (listens : Listens cells runner ends) where
  pub of_plan : AreOfPlan cells.plan ends
  of_plan =
      recursion_from_All (λ (i : Incoming). i.link < arc_count cells.plan) ends
      (λ k d below.
      let i = get_or ends k d in
      let leads = leads-to cells.plan runner.node i.end i.link (comes_by cells.plan is runner.node ends listens.places k i (slice_get-get_or ends k d below)) in
      slice_get_within (arcs cells.plan) i.link leads.arc leads.here)

  module _ (none_in_hand : All (λ (i : Incoming). i.hand ≡ None) ends) (end seen : ℕ) (stop : StopsAt runner.horizon runner.clock end seen) where
    reads : ReadsThere cells is runner ends listens none_in_hand end stop.link
    reads = reads_there cells is runner ends listens none_in_hand end stop.link stop.there

    is_stop : reads.reader.busy ≡ false → stops_here cells.plan runner.clock reads.reader ≡ true
    is_stop looked =
        let far : reads.reader.r.end.got + delay_of cells.plan reads.reader.link ≡ runner.clock = sym (stop.is_horizon ∙ ap horizon_at reads.same) in
        ap (λ b. not b && eqb (reads.reader.r.end.got + delay_of cells.plan reads.reader.link) runner.clock) looked
        ∙ eq-eqb (reads.reader.r.end.got + delay_of cells.plan reads.reader.link) runner.clock far

    by_held : (b : Bool) → reads.reader.busy ≡ b → stopping_ends cells.plan runner.clock ends ≡ [] → unheard_ends ends ≡ [] → ⊥
    by_held true held none_stops none_held = some_passes (λ (i : Incoming). i.busy) (λ (i : Incoming). i.end) ends reads.place reads.reader reads.at held none_held
    by_held false looked none_stops none_held =
        some_passes (stops_here cells.plan runner.clock) (λ (i : Incoming). i.end) ends reads.place reads.reader reads.at (is_stop looked) none_stops

    pub some_unheard : stopping_ends cells.plan runner.clock ends ≡ [] → unheard_ends ends ≡ [] → ⊥
    some_unheard none_stops none_held = by_held reads.reader.busy refl none_stops none_held

-- ---- Where no slot was run

pub explained_answer : (o : Outcome) (turn : Turn) → IsIdle o → o.clock < o.limit → Explains o.plan o.clock o.incoming (Some turn) → AnswersBy o turn
explained_answer o (Ran from to) idle below why = absurd why
explained_answer o (Blocked end seen) idle below why = (idle, below, why.0, why.1, why.2)
explained_answer o (Busy end) idle below why = absurd why
explained_answer o Finished idle below why = absurd why
explained_answer o (Stopped link) idle below why = (idle, below, why)
explained_answer o Memory idle below why = absurd why

pub busy_answer : (o : Outcome) (turn : Turn) → (IsAllDone o → ⊥) → IsIdle o → IsUnexplained o → NamesLeast (unheard_ends o.incoming ++ untold_ends o.clock o.outgoing) turn → AnswersBy o turn
busy_answer o (Ran from to) not_done idle none waits = absurd waits
busy_answer o (Blocked end seen) not_done idle none waits = absurd waits
busy_answer o (Busy end) not_done idle none waits = (not_done, idle, none, waits)
busy_answer o Finished not_done idle none waits = absurd waits
busy_answer o (Stopped link) not_done idle none waits = absurd waits
busy_answer o Memory not_done idle none waits = absurd waits
