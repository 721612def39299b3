-- The number of each status.
use Rattle.std.specs.Prelude.{ℕ}
use Rattle.xs1_load.specs.declared.status.Status.{Status}
use Rattle.xs1_load.specs.declared.status.Status.TheVariants.{Done, Memory, Usage, WriteFault}

abbrev pub status_number : Status → ℕ
status_number Done = 0
status_number Memory = 1
status_number Usage = 2
status_number WriteFault = 7
