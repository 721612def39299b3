use Rattle.std.proofs.Common.{◌∙◌, List, take, get_or, sym, ap}
use Rattle.sys_plan.specs.declared.WirePlan.{WirePlan}
use Rattle.sys_plan.specs.Plan.{count_from, count_to}
use Rattle.plan_routes.proofs.Ways.{leads_along}
use Rattle.plan_routes.proofs.route.route_of_wire.Goals as goal

pub returns : goal.returns
returns c =
    let none : WirePlan = record { a = 0; a_port = 0; b = 0; b_port = 0; delay = 0 } in
    record {
      route = leads_along c.args.plan.now c.wires.ensures.plan c.wires.result.now c.wires.ensures.value c.args.wire none c.requires.wire
          c.wires_from.result c.wires_to.result
          (c.wires_from.ensures.value ∙ ap (λ (ws : List WirePlan). count_from (get_or c.wires.result.now c.args.wire none).a (take c.args.wire ws)) (c.wires-2.ensures.value ∙ sym c.wires.ensures.value))
          (c.wires_to.ensures.value ∙ ap (λ (ws : List WirePlan). count_to (get_or c.wires.result.now c.args.wire none).b (take c.args.wire ws)) (c.wires-2.ensures.value ∙ sym c.wires.ensures.value));
    }
