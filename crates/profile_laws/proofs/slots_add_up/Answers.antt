use Rattle.profile_laws.proofs.Once.{slots-add-up}
use Rattle.profile_laws.proofs.slots_add_up.Goals as goal

pub returns : goal.returns
returns c = slots-add-up
