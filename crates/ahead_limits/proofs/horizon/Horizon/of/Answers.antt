-- Nothing was seen of any arc.
use Rattle.std.proofs.Common.{List, length, ap, ◌∙◌}
use Rattle.std.proofs.lemmas.List.{length-replicate}
use Rattle.xs_base.specs.Numbers.{Slot}
use Rattle.sys_plan.specs.Plan.{arc_count}
use Rattle.ahead_limits.specs.Schedule.{horizon_of}
use Rattle.ahead_limits.proofs.Steps.{nothing_seen}
use Rattle.ahead_limits.proofs.horizon.Horizon.of.Goals as goal

pub as_seen-requires : goal.as_seen-requires
as_seen-requires c = record {
  links = ap (λ (xs : List Slot). length xs) (nothing_seen c.args.plan.now c.links.ensures.plan c.links.result.now c.wires.result.now c.links.ensures.value c.wires.ensures.value)
      ∙ length-replicate (arc_count c.args.plan.now) 0;
}

pub returns : goal.returns
returns c = record {
  value = c.as_seen.ensures.value
      ∙ ap (λ (seen : List Slot). horizon_of c.args.plan.now c.args.limit seen c.args.node)
      (nothing_seen c.args.plan.now c.links.ensures.plan c.links.result.now c.wires.result.now c.links.ensures.value c.wires.ensures.value);
}
