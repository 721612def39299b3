use Rattle.run_plan.specs.Inbound.{Gathers}
use Rattle.run_plan.proofs.inbound.Inbound.arrivals.Given as goal

abbrev pub invariant-loop-end : goal.invariant-loop-end
invariant-loop-end l = record { gathers : Gathers l.tracks l.end l.self-inside.links l.tokens l.credits }
