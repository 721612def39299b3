use Rattle.std.proofs.Common.{◌-◌, [], List, length, map, slice_index, ap, ◌∙◌, arith}
use Rattle.sys_plan.specs.declared.WirePlan.{WirePlan}
use Rattle.sys_plan.specs.Plan.{Arc, link_arcs, wire_arcs}
use Rattle.sys_plan.proofs.Told.{arcs-count, delay-of-link, delay-of-wire, delay-within}
use Rattle.sys_plan.proofs.system_plan.Plan.delay.Goals as goal

pub wire_delay-requires : goal.wire_delay-requires
wire_delay-requires c =
    let few = arcs-count c.args.self.now in
    record { number = omega (arith, few, c.requires.number, c.directed_links-directed.ensures.value, c.if-link-directed.false, ap (λ (ws : List WirePlan). length ws) c.wires.ensures.value) }

pub returns-then-link-directed-clause-value : goal.returns-then-link-directed-clause-value
returns-then-link-directed-clause-value c =
    c.link_delay.ensures
    ∙ ap (λ ls. slice_index (map (λ (d : Arc). d.delay) (link_arcs ls)) c.args.link) c.links.ensures.value
    ∙ delay-of-link c.args.self.now c.args.link (omega (arith, c.if-link-directed.true, c.directed_links-directed.ensures.value))

pub returns-else-link-directed-clause-value : goal.returns-else-link-directed-clause-value
returns-else-link-directed-clause-value c =
    c.wire_delay.ensures
    ∙ ap (λ ws. slice_index (map (λ (d : Arc). d.delay) (wire_arcs [] ws)) (c.args.link - c.directed_links-directed.result)) c.wires.ensures.value
    ∙ delay-of-wire c.args.self.now c.args.link (c.args.link - c.directed_links-directed.result) (omega (arith, c.if-link-directed.false, c.directed_links-directed.ensures.value))

pub returns-then-link-directed-clause-least : goal.returns-then-link-directed-clause-least
returns-then-link-directed-clause-least c =
    omega (arith, returns-then-link-directed-clause-value c, (delay-within c.args.self.now c.links.ensures.plan c.args.link c.requires.number).0)

pub returns-then-link-directed-clause-most : goal.returns-then-link-directed-clause-most
returns-then-link-directed-clause-most c =
    omega (arith, returns-then-link-directed-clause-value c, (delay-within c.args.self.now c.links.ensures.plan c.args.link c.requires.number).1)

pub returns-else-link-directed-clause-least : goal.returns-else-link-directed-clause-least
returns-else-link-directed-clause-least c =
    omega (arith, returns-else-link-directed-clause-value c, (delay-within c.args.self.now c.wires.ensures.plan c.args.link c.requires.number).0)

pub returns-else-link-directed-clause-most : goal.returns-else-link-directed-clause-most
returns-else-link-directed-clause-most c =
    omega (arith, returns-else-link-directed-clause-value c, (delay-within c.args.self.now c.wires.ensures.plan c.args.link c.requires.number).1)
