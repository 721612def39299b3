-- What the outcome of an instruction says of a row that works on a part of the core alone.
use Rattle.std.specs.Prelude.{◌≡◌}
use Rattle.xs_model.specs.declared.thread.Outcome.{Outcome}
use Rattle.xs_model.specs.declared.thread.Outcome.TheVariants as outcome
use Rattle.step_model.specs.Effect.{Leaving, Leaves, Traps}

-- it was done, and the part is what the row leaves; or it trapped, and the part is as before
abbrev pub EndsAs : {A : Type 0} → Outcome → A → A → Leaving A → Type 0
EndsAs outcome.Done old new (Leaves after) = new ≡ after
EndsAs (outcome.Trap et ed) old new (Traps number value) = (et ≡ number) × (ed ≡ value) × (new ≡ old)
EndsAs _ old new _ = ⊥

-- whichever row it was: it was done; or it trapped, and the part is as before
abbrev pub IsDoneOrTraps : {A : Type 0} → Outcome → A → A → Type 0
IsDoneOrTraps outcome.Done old new = Unit {0}
IsDoneOrTraps (outcome.Trap et ed) old new = new ≡ old
IsDoneOrTraps _ old new = ⊥
