-- What an issue makes of a core, by how its instruction ends.
use Rattle.std.specs.Prelude.{◌≡◌, if◌then◌else◌, Bool, true, false, List, [], ◌∷◌, ◌++◌, map}
use Rattle.xs_base.specs.Numbers.{Slot, ChanNumber}
use Rattle.xs_model.specs.declared.event.Happen.{Happen}
use Rattle.xs_model.specs.declared.outside.PinView.{PinView}
use Rattle.xs_model.specs.declared.thread.Thread.{Thread}
use Rattle.xs_model.specs.declared.thread.Outcome.{Outcome}
use Rattle.xs_model.specs.declared.thread.Outcome.TheVariants as outcome
use Rattle.xs_model.specs.Record.{CoreRec}
use Rattle.xs_model.specs.Entry.{in_event, in_interrupt}
use Rattle.xs_model.specs.Outside.{Emitted, in_slot}
use Rattle.xs_instructions.specs.declared.instr.Instr.{Instr}
use Rattle.xs_instructions.specs.declared.instr.Instr.TheVariants.{Resources}
use Rattle.step_model.specs.Effect.{Setting, Effect, Done, Pause, Trap, Gone, after_it}
use Rattle.step_model.specs.Step.{Issued}
use Rattle.event_unit.specs.declared.answers.Choice.{Choice}
use Rattle.core_units.specs.Here.{IsHere}
use Rattle.core_units.specs.declared.ending.Ending.{Ending}
use Rattle.core_units.specs.declared.ending.Ending.TheVariants as ending
use Rattle.processor.specs.Program.{ProgramRec}

-- an issue is made on the node that a program is of, in this slot, with pins that show this from outside, and with these channel
-- ends at work
pub record IsIssuedAt (program : ProgramRec) (now : Slot) (pins : PinView) (is_busy : ChanNumber → Bool) (here : Setting) : Type 0 where
  pub edition : here.edition ≡ program.edition
  pub place : IsHere program.id now pins is_busy here

-- a thread after its row on words, which goes on where the row was done
abbrev pub gone_on : Outcome → Thread → Thread
gone_on outcome.Done th = after_it th
gone_on _ th = th

-- the effect of an outcome, when these are the units after it
abbrev pub effect_of : Outcome → CoreRec → Effect
effect_of outcome.Done core = Done core []
effect_of (outcome.Pause wait) core = Pause core wait []
effect_of (outcome.Trap et ed) core = Trap et ed
effect_of outcome.Gone core = Gone core []

abbrev pub effect_with : Ending → CoreRec → Effect
effect_with (ending.Quietly o) core = effect_of o core
effect_with (ending.Done what) core = Done core (what ∷ [])
effect_with (ending.Pause wait what) core = Pause core wait (what ∷ [])

-- whether an instruction is none on a resource, so that nothing happens by it but a trap
abbrev pub is_quiet : Instr → Bool
is_quiet (Resources ins) = false
is_quiet _ = true

-- what a slot gave, and then this happens
abbrev pub and_happened : Emitted → Slot → List Happen → Emitted
and_happened out slot happened = record out { events = out.events ++ map (in_slot slot) happened }

-- the core and what a slot gave, when an issue in it left this
pub record IsLeft (slot : Slot) (given : Emitted) (core : CoreRec) (gave : Emitted) (left : Issued) : Type 0 where
  pub units : core ≡ left.core
  pub events : gave ≡ and_happened given slot left.happened

-- a thread that takes this, as an event or as an interrupt
abbrev pub entered_by : Choice → Thread → Thread
entered_by choice th =
    if choice.interrupt then in_interrupt th choice.vector choice.env else in_event th choice.vector choice.env
