-- The number that the program ends with.
use Rattle.std.specs.Prelude.{ℕ}
use Rattle.answer_model.specs.declared.Status.{Status}
use Rattle.answer_model.specs.declared.Status.TheVariants.{Done, Memory, Usage, SystemFault, SourceFault, ScriptFault, ReadFault, WriteFault}

abbrev pub number_of_status : Status → ℕ
number_of_status Done = 0
number_of_status Memory = 1
number_of_status Usage = 2
number_of_status SystemFault = 3
number_of_status SourceFault = 4
number_of_status ScriptFault = 5
number_of_status ReadFault = 6
number_of_status WriteFault = 7
