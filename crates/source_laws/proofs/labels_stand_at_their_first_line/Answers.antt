use Rattle.source_laws.proofs.LabelPlaces.{place_is, nowhere_is, address_is}
use Rattle.source_laws.proofs.labels_stand_at_their_first_line.Goals as goal

pub returns-clause-place : goal.returns-clause-place
returns-clause-place c = place_is

pub returns-clause-address : goal.returns-clause-address
returns-clause-address c = address_is

pub returns-clause-nowhere : goal.returns-clause-nowhere
returns-clause-nowhere c = nowhere_is
