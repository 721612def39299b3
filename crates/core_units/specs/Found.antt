-- What getting a thread gives.
use Rattle.std.specs.Prelude.{Option, Some, None}
use Rattle.xs_base.specs.Numbers.{Slot, ThreadNumber}
use Rattle.xs_model.specs.Record.{CoreRec}
use Rattle.step_model.specs.ThreadRows.{with_got_thread}

-- the core after the thread with this number was got in a slot, if there is one
abbrev pub with_thread_got : CoreRec → Slot → Option ThreadNumber → CoreRec
with_thread_got core slot None = core
with_thread_got core slot (Some j) = with_got_thread core j slot
