use Rattle.port_laws.proofs.Edges.{first_facts, edge_keeps, slot_keeps}
use Rattle.port_laws.proofs.Rows.{rows_keep}
use Rattle.port_laws.proofs.ports_keep_their_facts.Goals as goal

pub returns-clause-first : goal.returns-clause-first
returns-clause-first c = first_facts

pub returns-clause-edge : goal.returns-clause-edge
returns-clause-edge c = edge_keeps

pub returns-clause-rows : goal.returns-clause-rows
returns-clause-rows c = rows_keep

pub returns-clause-slot : goal.returns-clause-slot
returns-clause-slot c = slot_keeps
