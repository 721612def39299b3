use Rattle.link_laws.proofs.SlotAtEndStep.{slot_at_link_end}
use Rattle.link_laws.proofs.TravelSerial.{window-is-kept, fits-where-it-arrives, keeps-its-order}
use Rattle.link_laws.proofs.links_lose_nothing.Goals as goal

pub returns-clause-window : goal.returns-clause-window
returns-clause-window c = window-is-kept slot_at_link_end

pub returns-clause-arrivals : goal.returns-clause-arrivals
returns-clause-arrivals c = fits-where-it-arrives slot_at_link_end

pub returns-clause-order : goal.returns-clause-order
returns-clause-order c = keeps-its-order slot_at_link_end
