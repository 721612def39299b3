-- What is kept of all nodes of a plan, and told of them, in a slot.
use Rattle.std.specs.Prelude.{◌<◌, IfSome, List, length, slice_index_or}
use Rattle.std.specs.List.{All}
use Rattle.xs_base.specs.Numbers.{Slot, Position}
use Rattle.xs_base.specs.declared.numbers.TheConstants.{THREADS}
use Rattle.sys_plan.specs.Plan.{PlanRec}
use Rattle.core_step.specs.declared.told.Told.{Told}
use Rattle.issue_model.specs.Seen.{node_after}
use Rattle.told_run.specs.declared.before.Before.{Before}
use Rattle.told_run.specs.Slots.{IsBefore, IsToldIn}

-- of each node right before a slot
abbrev pub AreBefore : PlanRec → Slot → List Before → Type 0
AreBefore plan slot befores =
    (n : Position) (none : Before) → n < length plan.nodes → IsBefore (node_after plan slot n).core (slice_index_or befores n none)

-- of each node in a slot
abbrev pub AreToldIn : PlanRec → Slot → List Told → Type 0
AreToldIn plan slot all = (n : Position) (none : Told) → n < length plan.nodes → IsToldIn plan slot n (slice_index_or all n none)

-- who issues is one of the threads
abbrev pub IsWithin : Told → Type 0
IsWithin told = IfSome told.issue (λ next. next.thread < THREADS)

abbrev pub AreWithin : List Told → Type 0
AreWithin all = All IsWithin all
