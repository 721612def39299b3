-- Each slot of a thread is counted once.
use Rattle.std.proofs.Common.{◌≡◌, ℕ, zero, suc, ◌+◌, ◌-◌, ◌/◌, ◌%◌, ◌≤◌, Bool, true, false, ◌==◌, ◌&&◌, if◌then◌else◌, List, length, refl, ◌∙◌, arith}
use Rattle.std.specs.Prelude.{slice_index_or, nat_le, nat_lt}
use Rattle.std.proofs.lemmas.Bool.{ltb-true}
use Rattle.xs_base.specs.declared.numbers.TheConstants.{THREADS}
use Rattle.xs_instructions.specs.declared.instr.Instr.{Instr}
use Rattle.xs_instructions.specs.Code.{code_start, is_code_place}
use Rattle.sys_plan.specs.declared.NodePlan.{NodePlan}
use Rattle.sys_plan.specs.Plan.{PlanRec}
use Rattle.issue_model.specs.Issues.{thread_in}
use Rattle.issue_model.specs.Seen.{node_after}
use Rattle.chart_model.specs.declared.Mark.{Mark}
use Rattle.chart_model.specs.declared.Mark.TheVariants as mark
use Rattle.chart_model.specs.Marks.{mark_at}
use Rattle.chart_model.specs.Columns.{mark_char}
use Rattle.profile_model.specs.declared.TheConstants.{KINDS}
use Rattle.profile_model.specs.Sums.{sum_below, one_if}
use Rattle.profile_model.specs.Counts.{pc_in, char_at, place_of, place_at, is_one_of, slots_shown}
use Rattle.profile_laws.proofs.Sums.{sum-zero, sum-both, sum-swapped, one-of-these}
use Rattle.profile_laws.specs.AddUp.{SlotsAddUp, EachIsCountedOnce}

-- ---- How a thread is shown

-- each mark has one of the characters
one-kind : (m : Mark) → sum_below (λ i. one_if (mark_char m == slice_index_or KINDS i 0)) (length KINDS) ≡ 1
one-kind mark.Done = refl
one-kind mark.Pauses = refl
one-kind mark.Traps = refl
one-kind mark.TakesEvent = refl
one-kind mark.TakesInterrupt = refl
one-kind mark.Ready = refl
one-kind mark.Between = refl
one-kind mark.Tokens = refl
one-kind mark.Room = refl
one-kind mark.Port = refl
one-kind mark.Timer = refl
one-kind mark.Lock = refl
one-kind mark.Slaves = refl
one-kind mark.Divider = refl
one-kind mark.Choice = refl
one-kind mark.AtSync = refl
one-kind mark.Unstarted = refl
one-kind mark.Halted = refl
one-kind mark.Free = refl

module _ (plan : PlanRec) (n : ℕ) (node : NodePlan) (k : ℕ) where
  all-kinds : (slots : ℕ) → sum_below (λ i. slots_shown plan n node k (slice_index_or KINDS i 0) slots) (length KINDS) ≡ slots
  all-kinds zero = sum-zero (length KINDS)
  all-kinds (suc slots) =
      sum-both (λ i. slots_shown plan n node k (slice_index_or KINDS i 0) slots) (λ i. one_if (char_at plan n node k slots == slice_index_or KINDS i 0)) (length KINDS)
      ∙ (λ j. all-kinds slots j + one-kind (mark_at plan slots n node k) j) ∙ omega arith

pub slots-add-up : SlotsAddUp
slots-add-up plan n node k slots = all-kinds plan n node k slots

-- ---- Where it is

second : (x y : Bool) → (x && y) ≡ true → y ≡ true
second true y both = both
second false y both = let apart : false ≡ true = both in absurd cc

either-within : (b : Bool) (x n : ℕ) → (b ≡ true → x ≤ n) → (if b then x else n) ≤ n
either-within true x n within = within refl
either-within false x n within = omega arith

place-within : (code : List Instr) (pc : ℕ) → place_of code pc ≤ length code
place-within code pc =
    let place = (pc - code_start) / 4 in
    let within : is_code_place code pc ≡ true → place ≤ length code =
    λ is. omega (arith, ltb-true place (length code) (second (nat_le code_start pc && ((pc - code_start) % 4 == 0)) (nat_lt place (length code)) is)) in
    either-within (is_code_place code pc) place (length code) within

module _ (plan : PlanRec) (n : ℕ) (node : NodePlan) (chars : List ℕ) where
  -- what a thread has counted at a place in a slot
  abbrev one : ℕ → ℕ → ℕ → ℕ
  one place slot k = one_if ((place_at plan n node k slot == place) && is_one_of chars (char_at plan n node k slot))

  abbrev whole : ℕ
  whole = length node.image.code + 1

  -- at all places
  at-all : (slot k : ℕ) → sum_below (λ place. one place slot k) whole ≡ one_if (is_one_of chars (char_at plan n node k slot))
  at-all slot k = one-of-these (place_at plan n node k slot) whole (is_one_of chars (char_at plan n node k slot))
      (omega (arith, place-within node.image.code (pc_in (thread_in (node_after plan slot n).core.threads k))))

  counted-once : (slots : ℕ) → sum_below (λ place. sum_below (λ slot. sum_below (one place slot) THREADS) slots) whole
      ≡ sum_below (λ k. sum_below (λ slot. one_if (is_one_of chars (char_at plan n node k slot))) slots) THREADS
  counted-once slots =
      sum-swapped (λ place slot. sum_below (one place slot) THREADS) whole slots
      ∙ (λ i. sum_below (λ slot. sum-swapped (λ place k. one place slot k) whole THREADS i) slots)
      ∙ (λ i. sum_below (λ slot. sum_below (λ k. at-all slot k i) THREADS) slots)
      ∙ sum-swapped (λ slot k. one_if (is_one_of chars (char_at plan n node k slot))) slots THREADS

pub each-is-counted-once : EachIsCountedOnce
each-is-counted-once plan n node chars slots = counted-once plan n node chars slots
