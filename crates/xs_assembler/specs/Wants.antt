-- Where memory may be wanting while a line is read: never in place of a fault that is found before anything of the line is kept.
use Rattle.std.specs.Prelude.{◌≡◌, ◌≢◌, ◌⊎◌, false, None, []}
use Rattle.source_model.specs.Statement.{Line, Says, Instruction, Values}
use Rattle.source_model.specs.Layout.{Sofar}
use Rattle.source_model.specs.Source.{fault_of_line}

-- the statement has values, which are kept while it is read
abbrev pub HasValues : Says → Type 0
HasValues (Instruction row amounts) = amounts ≢ []
HasValues (Values width amounts) = Unit {0}
HasValues _ = ⊥

-- while labels are noted: the line has labels
pub record MayWantNames (line : Line) : Type 0 where
  pub good_bytes : line.bad_byte ≡ false
  pub labels : line.labels ≢ []

-- while what the line adds is put: its statement has values, or the line has no fault
pub record MayWant (whole before : Sofar) (line : Line) : Type 0 where
  pub good_bytes : line.bad_byte ≡ false
  pub kept : (fault_of_line whole before line ≡ None) ⊎ HasValues line.statement.says
