-- What contracts see of a play, and of each of its lines.
use Rattle.xs_base.specs.Numbers.{Slot}
use Rattle.sys_plan.specs.Plan.{PlanRec}
use Rattle.play_model.specs.Play.{PlayedStep}
use Rattle.run_drive.specs.declared.played.PlayLine.{PlayLine}

-- the plan whose steps were played, and how many slots the run has
pub record PlayedRec : Type 0 where
  pub plan : PlanRec
  pub limit : Slot

-- what a line says: of its batch the entries, and not for how many more there is room
abbrev pub line_of : PlayLine → PlayedStep
line_of line = record { step = line.step; number = line.number; entries = line.batch.entries }
