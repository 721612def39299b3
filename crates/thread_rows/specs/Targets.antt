-- What a row sets of another thread.
use Rattle.std.specs.Prelude.{◌<◌}
use Rattle.xs_base.specs.Numbers.{Word}
use Rattle.xs_model.specs.declared.thread.Thread.{Thread}
use Rattle.xs_model.specs.Threads.{with_register}
use Rattle.thread_rows.specs.declared.others.Target.{Target}
use Rattle.thread_rows.specs.declared.others.Target.TheVariants.{Pc, Register}

abbrev pub with_target : Target → Word → Thread → Thread
with_target Pc value th = record th { pc = value }
with_target (Register g) value th = with_register th g value

-- a thread has the register
abbrev pub IsTarget : Target → Type 0
IsTarget Pc = Unit {0}
IsTarget (Register g) = g < 16
