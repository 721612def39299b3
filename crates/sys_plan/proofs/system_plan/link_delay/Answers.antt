use Rattle.std.proofs.Common.{sym, refl, arith}
use Rattle.sys_plan.specs.declared.LinkPlan.{LinkPlan}
use Rattle.sys_plan.specs.Plan.{Arc}
use Rattle.sys_plan.proofs.Arcs.{arcs_length, shared-at}
use Rattle.sys_plan.proofs.system_plan.link_delay.Goals as goal

pub returns : goal.returns
returns c =
    sym (shared-at (λ (d : Arc). d.delay) (λ (l : LinkPlan). l.delay) (λ l. refl) (λ l. refl) c.args.links.now c.args.link _
    (omega (arith, arcs_length c.args.links.now, c.requires.number)))
