use Rattle.source_laws.proofs.Order.{first_from, past_from}
use Rattle.source_laws.proofs.Places as places
use Rattle.source_laws.proofs.written.labels_stand_in_order.Goals as goal

pub returns-clause-here : goal.returns-clause-here
returns-clause-here c = first_from

pub returns-clause-later : goal.returns-clause-later
returns-clause-later c = past_from

pub returns-clause-first_place : goal.returns-clause-first_place
returns-clause-first_place c = places.from_first

pub returns-clause-next_place : goal.returns-clause-next_place
returns-clause-next_place c = places.next_place

pub returns-clause-data : goal.returns-clause-data
returns-clause-data c = places.next_data

pub returns-clause-next_byte : goal.returns-clause-next_byte
returns-clause-next_byte c = places.next_byte

pub returns-clause-constants : goal.returns-clause-constants
returns-clause-constants c = places.next_constants
