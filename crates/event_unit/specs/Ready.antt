-- What is ready, as masks, and what is chosen.
use Rattle.std.specs.Prelude.{ℕ, ◌≡◌, ◌<◌, Option, Some, None}
use Rattle.xs_base.specs.declared.numbers.TheConstants.{CHAN_ENDS, TIMERS, PORTS}
use Rattle.xs_model.specs.declared.resource.Res.{Res}
use Rattle.xs_model.specs.declared.resource.Res.TheVariants as res
use Rattle.xs_model.specs.Masks.{in_mask}
use Rattle.xs_model.specs.Record.{EnablingRec}
use Rattle.xs_model.specs.Choices.{ReadyRec}
use Rattle.event_unit.specs.declared.answers.Ready.{Ready}
use Rattle.event_unit.specs.declared.answers.Choice.{Choice}

-- the masks have what is ready
pub record AreReady (ready : Ready) (rec : ReadyRec) : Type 0 where
  pub chans : (c : ℕ) → c < CHAN_ENDS → in_mask ready.chans c ≡ rec.chans c
  pub timers : (n : ℕ) → n < TIMERS → in_mask ready.timers n ≡ rec.timers n
  pub ports : (p : ℕ) → p < PORTS → in_mask ready.ports p ≡ rec.ports p

-- what a thread is given of a resource
abbrev pub choice_of : Option EnablingRec → Option Choice
choice_of None = None
choice_of (Some e) = Some (record { interrupt = e.interrupt; vector = e.vector; env = e.environment })

-- a resource that a core has
abbrev pub IsRes : Res → Type 0
IsRes (res.Chan c) = c < CHAN_ENDS
IsRes (res.Timer n) = n < TIMERS
IsRes (res.Port p) = p < PORTS
