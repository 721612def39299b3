use Rattle.issue_laws.proofs.Slot.{memory_followed}
use Rattle.issue_laws.proofs.memory_is_followed.Goals as goal

pub returns : goal.returns
returns c = memory_followed
