use Rattle.core_step.specs.Core.{SlotsBefore}
use Rattle.node_tests.proofs.core_step_tests.sends_a_packet.Given as goal

-- the slots that the core keeps are before the next one
abbrev pub invariant-loop-slot : goal.invariant-loop-slot
invariant-loop-slot g l = SlotsBefore l.core l.slot-counter
