use Rattle.core_step.specs.Core.{SlotsBefore}
use Rattle.node_tests.proofs.core_step_tests.goes_over_the_slots_before_a_timers_moment.Given as goal

-- the slots that the core keeps are before the next one
abbrev pub invariant-loop-slot : goal.invariant-loop-slot
invariant-loop-slot g l = SlotsBefore l.core l.slot

abbrev pub invariant-loop-slot-2 : goal.invariant-loop-slot-2
invariant-loop-slot-2 g l = SlotsBefore l.core l.slot-counter
