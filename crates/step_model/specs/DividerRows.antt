-- The divider that the threads of a core share, in edition 2. In edition 1 no row asks for it.
use Rattle.std.specs.Prelude.{ℕ, Bool, true, false, ◌&&◌, ◌==◌, if◌then◌else◌, Some, []}
use Rattle.xs_base.specs.Numbers.{Slot, ThreadNumber}
use Rattle.xs_model.specs.declared.thread.Thread.{Thread}
use Rattle.xs_model.specs.declared.thread.Wait.TheVariants.{Divider}
use Rattle.xs_model.specs.Record.{CoreRec, with_thread, thread_of}
use Rattle.xs_model.specs.Waits.{division_is_over}
use Rattle.xs_instructions.specs.declared.instr.WordIns.{WordIns}
use Rattle.xs_instructions.specs.declared.instr.WordIns.TheVariants as words
use Rattle.step_model.specs.Effect.{Setting, Effect, Done, Pause, Trap, Leaving, Leaves, Traps, after_it, on_registers}
use Rattle.step_model.specs.WordRows.{words_row}

-- whether a row on words divides
abbrev pub is_division : WordIns → Bool
is_division (words.Divu d x y) = true
is_division (words.Remu d x y) = true
is_division (words.Divs d x y) = true
is_division (words.Rems d x y) = true
is_division (words.Ldivu d e x y v) = true
is_division _ = false

-- whether it does so by the divider that all threads of the core share
abbrev pub shares_divider : ℕ → WordIns → Bool
shares_divider edition ins = (edition == 2) && is_division ins

-- this slot is that of the core's last division
abbrev pub with_division : CoreRec → Slot → CoreRec
with_division core slot = record core { slots = record core.slots { division = Some slot } }

-- Such a row traps as it does without the divider, and is no division then. Else the thread pauses, and nothing is done, where
-- the divider is not free; and where it is, the row is done, and this slot is kept.
abbrev pub on_divider : Slot → CoreRec → ThreadNumber → Leaving Thread → Effect
on_divider slot core k (Traps number value) = Trap number value
on_divider slot core k (Leaves th) =
    if division_is_over core.slots.division slot
    then Done (with_division (with_thread core k (after_it th)) slot) []
    else Pause core Divider []

-- what a row on words does where thread k issues it
abbrev pub words_effect : Setting → CoreRec → ThreadNumber → WordIns → Effect
words_effect here core k ins =
    if shares_divider here.edition ins
    then on_divider here.slot core k (words_row (thread_of core k) ins)
    else on_registers core k (words_row (thread_of core k) ins)
