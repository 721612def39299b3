use Rattle.state_laws.proofs.Links.{first_links, slot_links}
use Rattle.state_laws.proofs.link_ends_keep_their_windows.Goals as goal

pub returns-clause-first : goal.returns-clause-first
returns-clause-first c = first_links

pub returns-clause-slot : goal.returns-clause-slot
returns-clause-slot c = slot_links
