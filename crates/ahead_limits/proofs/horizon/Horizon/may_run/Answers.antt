-- One comparison with the bound that is kept.
use Rattle.std.proofs.Common.{◌≡◌, subst, ltb}
use Rattle.ahead_limits.specs.Horizon.{HorizonRec, may_run}
use Rattle.ahead_limits.specs.Bound.{least_bound}
use Rattle.ahead_limits.proofs.Bounds.{may_run_is}
use Rattle.ahead_limits.proofs.Ends.{may_run_exactly}
use Rattle.ahead_limits.proofs.horizon.Horizon.may_run.Goals as goal

one_comparison : (c : goal.After-self) → ltb c.from.result c.self.inside.bound ≡ may_run c.args.self.now c.args.clock
one_comparison c =
    may_run_is c.args.self.now c.args.clock c.from.result c.self.inside.bound c.from.ensures
    (subst (λ (h : HorizonRec). c.self.inside.bound ≡ least_bound h.limit h.ends) c.self.view_is c.self.invariant.1)

pub returns-clause-value : goal.returns-clause-value
returns-clause-value c = one_comparison c

pub returns-clause-exactly : goal.returns-clause-exactly
returns-clause-exactly c = may_run_exactly c.args.self.now c.args.clock (ltb c.from.result c.self.inside.bound) (one_comparison c)
