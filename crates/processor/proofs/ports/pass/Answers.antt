use Rattle.std.proofs.Common.{subst}
use Rattle.xs_model.specs.Record.{CoreRec}
use Rattle.core_units.specs.Units.{units_of}
use Rattle.processor.specs.Knows.{StaysKnown}
use Rattle.processor.proofs.Served.{known_served}
use Rattle.processor.proofs.ports.pass.Goals as goal

-- which threads are able stays known, since ports that only count serve them as before
pub returns-clause-known : goal.returns-clause-known
returns-clause-known c =
    subst (λ (core : CoreRec). StaysKnown core (record (units_of c.units.inside) { ports = c.pass.new.self })) c.units.view_is
    (known_served (units_of c.units.inside) c.pass.new.self c.pass.ensures.serves)
