use Rattle.std.proofs.Common.{Bool, cond, sym, ap, subst, ◌∙◌}
use Rattle.core_step.specs.Core.{NothingArrives}
use Rattle.run_plan.specs.declared.inbound.TheConstants.{NOTHING}
use Rattle.run_plan.specs.Inbound.{arrivals_by}
use Rattle.run_plan.proofs.Arrivals.{nothing-arrives}
use Rattle.run_plan.proofs.station.Station.taken.Goals as goal

pub returns-then-self-clause-value : goal.returns-then-self-clause-value
returns-then-self-clause-value c =
    c.arrivals.ensures ∙ ap (λ (due : Bool). cond due (arrivals_by c.args.tracks.now c.args.self.now.incoming.links) NOTHING) (sym c.if-self.true)

pub returns-else-self-clause-value : goal.returns-else-self-clause-value
returns-else-self-clause-value c =
    c.nothing.ensures ∙ ap (λ (due : Bool). cond due (arrivals_by c.args.tracks.now c.args.self.now.incoming.links) NOTHING) (sym c.if-self.false)

pub returns-else-self-clause-none : goal.returns-else-self-clause-none
returns-else-self-clause-none c = λ _. subst NothingArrives (sym c.nothing.ensures) nothing-arrives
