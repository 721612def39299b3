use Rattle.state_laws.proofs.Chans.{first_switch, slot_switch}
use Rattle.state_laws.proofs.switch_holds_each_once.Goals as goal

pub returns-clause-first : goal.returns-clause-first
returns-clause-first c = first_switch

pub returns-clause-slot : goal.returns-clause-slot
returns-clause-slot c = slot_switch
