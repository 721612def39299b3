use Rattle.std.proofs.Common.{is_some, slice_index_or}
use Rattle.xs_model.specs.Status.{no_status}
use Rattle.xs_model.specs.Choices.{ReadyRec, choice_by}
use Rattle.event_unit.specs.Ready.{AreReady}
use Rattle.event_unit.proofs.Wakes.{AreWoken}
use Rattle.event_unit.proofs.events.Events.wake_mask.Given as goal

abbrev pub invariant-loop-k : goal.invariant-loop-k
invariant-loop-k l = (rec : ReadyRec) → AreReady l.ready rec → AreWoken (λ j. is_some (choice_by j (slice_index_or l.sr j no_status) rec l.self)) l.k l.mask
