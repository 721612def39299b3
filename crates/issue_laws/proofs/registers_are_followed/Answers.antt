use Rattle.issue_laws.proofs.Slot.{registers_followed}
use Rattle.issue_laws.proofs.registers_are_followed.Goals as goal

pub returns : goal.returns
returns c = registers_followed
