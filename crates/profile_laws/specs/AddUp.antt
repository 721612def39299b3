-- What the numbers of a profile come to together.
use Rattle.std.specs.Prelude.{ℕ, ◌≡◌, ◌+◌, List, length, slice_index_or}
use Rattle.xs_base.specs.Numbers.{Position, ThreadNumber}
use Rattle.xs_base.specs.declared.numbers.TheConstants.{THREADS}
use Rattle.sys_plan.specs.declared.NodePlan.{NodePlan}
use Rattle.sys_plan.specs.Plan.{PlanRec}
use Rattle.profile_model.specs.declared.TheConstants.{KINDS}
use Rattle.profile_model.specs.Sums.{sum_below, how_many}
use Rattle.profile_model.specs.Counts.{char_at, is_one_of, slots_shown, times_at}

-- the numbers of a thread's line add up to the slots
abbrev pub SlotsAddUp : Type 0
SlotsAddUp = (plan : PlanRec) (n : Position) (node : NodePlan) (k : ThreadNumber) (slots : ℕ) →
    sum_below (λ i. slots_shown plan n node k (slice_index_or KINDS i 0) slots) (length KINDS) ≡ slots

-- what is counted at all places together is in how many slots the threads are shown by one of the characters
abbrev pub EachIsCountedOnce : Type 0
EachIsCountedOnce = (plan : PlanRec) (n : Position) (node : NodePlan) (chars : List ℕ) (slots : ℕ) →
    sum_below (λ place. times_at plan n node chars place slots) (length node.image.code + 1)
    ≡ sum_below (λ k. how_many (λ slot. is_one_of chars (char_at plan n node k slot)) slots) THREADS
