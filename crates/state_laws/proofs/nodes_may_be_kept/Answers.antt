use Rattle.state_laws.proofs.Gives.{kept_may_be_read}
use Rattle.state_laws.proofs.Whole.{first_kept, slot_kept}
use Rattle.state_laws.proofs.nodes_may_be_kept.Goals as goal

pub returns-clause-first : goal.returns-clause-first
returns-clause-first c = first_kept

pub returns-clause-slot : goal.returns-clause-slot
returns-clause-slot c = slot_kept

pub returns-clause-read : goal.returns-clause-read
returns-clause-read c = kept_may_be_read
