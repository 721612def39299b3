use Rattle.std.proofs.Common.{subst}
use Rattle.worker_threads.specs.Team.{IsPlace}
use Rattle.worker_threads.proofs.place.Place.turn.Goals as goal

pub returns-in-Here-clause-stays : goal.returns-in-Here-clause-stays
returns-in-Here-clause-stays g c = λ cells limit n is. c.turn.ensures.stays cells limit n (subst (IsPlace cells limit n) c.in-Here.is is)

pub returns-in-Here-clause-goes_on : goal.returns-in-Here-clause-goes_on
returns-in-Here-clause-goes_on g c = c.turn.ensures.goes_on
