use Rattle.link_laws.proofs.SlotAtEndStep.{slot_at_link_end}
use Rattle.link_laws.proofs.slot_at_a_link_end.Goals as goal

pub returns : goal.returns
returns c = record { slot = slot_at_link_end }
