use Rattle.std.proofs.Common.{subst}
use Rattle.xs_model.specs.Record.{CoreRec}
use Rattle.core_units.specs.Units.{units_of}
use Rattle.processor.specs.Knows.{StaysKnown}
use Rattle.processor.proofs.Served.{known_served}
use Rattle.processor.proofs.edges.edges.Goals as goal

-- which threads are able stays known where no port serves them otherwise than before
pub returns-clause-known : goal.returns-clause-known
returns-clause-known c = λ same.
    subst (λ (core : CoreRec). StaysKnown core (record (units_of c.units.inside) { ports = c.edges.new.self })) c.units.view_is
    (known_served (units_of c.units.inside) c.edges.new.self (c.edges.ensures.serve same))
