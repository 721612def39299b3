use Rattle.std.proofs.Common.{refl, rules}
use Rattle.switch_routes.proofs.Begins.{moves-stands, moves-emitted, moves-rest}
use Rattle.switch_routes.proofs.switch.Switch.moves.Goals as goal

pub returns-clause-stands : goal.returns-clause-stands
returns-clause-stands c =
    rw (← c.self.view_is) (λ before m s emitted. moves-stands c.steps.ensures before m s emitted _ _ _ refl (search rules) (search rules))

pub returns-clause-emitted : goal.returns-clause-emitted
returns-clause-emitted c = rw (← c.self.view_is) (λ before m s emitted. moves-emitted c.steps.ensures before m s emitted _ (search rules))

pub returns-clause-rest : goal.returns-clause-rest
returns-clause-rest c = rw (← c.self.view_is) (λ before m s emitted. moves-rest c.steps.ensures before m s emitted _ _ refl (search rules))
