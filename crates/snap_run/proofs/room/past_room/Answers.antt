use Rattle.std.proofs.Common.{length, ap, arith}
use Rattle.xs_model.specs.FirstEvents.{kept_at_most}
use Rattle.snap_run.proofs.Lists.{taken_and_left}
use Rattle.snap_run.proofs.room.past_room.Goals as goal

pub returns-clause-value : goal.returns-clause-value
returns-clause-value c = λ all keeps. omega (arith, taken_and_left kept_at_most all, ap length keeps.first, keeps.rest, ap length c.events.ensures.value)
