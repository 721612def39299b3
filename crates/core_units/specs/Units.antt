-- The units of a core: what they stand for, and what rows leave of them.
use Rattle.std.specs.Prelude.{◌≡◌, [], ◌∷◌, length}
use Rattle.xs_base.specs.declared.numbers.TheConstants.{THREADS}
use Rattle.xs_model.specs.declared.thread.Outcome.{Outcome}
use Rattle.xs_model.specs.declared.thread.Outcome.TheVariants as outcome
use Rattle.xs_model.specs.Record.{CoreRec, core_with}
use Rattle.step_model.specs.Effect.{Effect, Done, Pause, Trap, Gone}
use Rattle.core_units.specs.declared.ending.Ending.{Ending}
use Rattle.core_units.specs.declared.ending.Ending.TheVariants as ending
use Rattle.core_units.specs.declared.units.Units.TheInside.{Inside}

-- the core record
abbrev pub units_of : Inside → CoreRec
units_of u = record (core_with u.threads u.slots.last u.ram) {
  slots = u.slots;
  chans = u.chans;
  timers = u.timers;
  clocks = u.clocks;
  syncs = u.syncs.syncs;
  locks = u.syncs.locks;
  ports = u.ports;
  enabled = u.events;
}

-- there are eight threads
pub record IsUnits (u : Inside) : Type 0 where
  pub eight : length u.threads ≡ THREADS

-- the outcome of an instruction by which nothing happens, and the units after it, are what its effect says
abbrev pub Ends : Outcome → CoreRec → CoreRec → Effect → Type 0
Ends outcome.Done old new (Done after []) = new ≡ after
Ends outcome.Done old new _ = ⊥
Ends (outcome.Pause wait) old new (Pause after waited []) = (wait ≡ waited) × (new ≡ after)
Ends (outcome.Pause wait) old new _ = ⊥
Ends (outcome.Trap et ed) old new (Trap number value) = (et ≡ number) × (ed ≡ value) × (new ≡ old)
Ends (outcome.Trap et ed) old new _ = ⊥
Ends outcome.Gone old new (Gone after []) = new ≡ after
Ends outcome.Gone old new _ = ⊥

-- so is it of an instruction by which this happens, if anything
abbrev pub EndsWith : Ending → CoreRec → CoreRec → Effect → Type 0
EndsWith (ending.Quietly o) old new effect = Ends o old new effect
EndsWith (ending.Done what) old new (Done after happened) = (what ∷ [] ≡ happened) × (new ≡ after)
EndsWith (ending.Done what) old new _ = ⊥
EndsWith (ending.Pause wait what) old new (Pause after waited happened) = (wait ≡ waited) × (what ∷ [] ≡ happened) × (new ≡ after)
EndsWith (ending.Pause wait what) old new _ = ⊥
