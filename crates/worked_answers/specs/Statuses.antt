-- The numbers of all statuses.
use Rattle.std.specs.Prelude.{◌≡◌}
use Rattle.answer_model.specs.declared.Status.TheVariants.{Done, Memory, Usage, SystemFault, SourceFault, ScriptFault, ReadFault, WriteFault}
use Rattle.answer_model.specs.StatusNumber.{number_of_status}

-- the numbers, as shells and scripts see them
pub record WorkedStatuses : Type 0 where
  pub done : number_of_status Done ≡ 0
  pub memory : number_of_status Memory ≡ 1
  pub usage : number_of_status Usage ≡ 2
  pub system_fault : number_of_status SystemFault ≡ 3
  pub source_fault : number_of_status SourceFault ≡ 4
  pub script_fault : number_of_status ScriptFault ≡ 5
  pub read_fault : number_of_status ReadFault ≡ 6
  pub write_fault : number_of_status WriteFault ≡ 7
