-- What a row leaves says how it ends.
use Rattle.xs_model.specs.declared.thread.Outcome.{Outcome}
use Rattle.xs_model.specs.declared.thread.Outcome.TheVariants as outcome
use Rattle.step_model.specs.Effect.{Own, Leaving, Leaves, Traps}
use Rattle.step_model.specs.Outcomes.{EndsAs, IsDoneOrTraps}

pub done_or_traps : (o : Outcome) (old new : Own) (row : Leaving Own) → EndsAs o old new row → IsDoneOrTraps o old new
done_or_traps outcome.Done old new row is = tt
done_or_traps (outcome.Trap et ed) old new (Traps number value) is = is.2
done_or_traps (outcome.Trap et ed) old new (Leaves after) is = absurd is
done_or_traps (outcome.Pause wait) old new row is = is
done_or_traps outcome.Gone old new row is = is
