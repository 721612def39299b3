-- A node runs to the bound, which is at most the limit.
use Rattle.std.proofs.Common.{◌≡◌, subst, arith}
use Rattle.ahead_limits.specs.Horizon.{HorizonRec}
use Rattle.ahead_limits.specs.Bound.{least_bound}
use Rattle.ahead_limits.proofs.Steps.{runs_on, bound_within}
use Rattle.ahead_limits.proofs.horizon.Horizon.clock_after.Goals as goal

pub overflow_cast-result : goal.overflow_cast-result
overflow_cast-result c = omega (arith, bound_within c.self.inside.limit c.self.inside.ends, c.self.invariant.1)

pub returns : goal.returns
returns c = record {
  value = runs_on c.args.self.now c.args.clock c.args.count c.self.inside.bound c.from.result c.from-2.result c.from-3.result c.min-end.result c.max.result
      c.from.ensures c.from-2.ensures c.from-3.ensures
      (subst (λ (h : HorizonRec). c.self.inside.bound ≡ least_bound h.limit h.ends) c.self.view_is c.self.invariant.1)
      c.min-end.ensures c.max.ensures;
}
