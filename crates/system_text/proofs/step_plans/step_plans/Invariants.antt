use Rattle.std.proofs.Common.{◌≡◌, map, take}
use Rattle.system_model.specs.System.{step_plan}
use Rattle.system_text.proofs.step_plans.step_plans.Given as goal

abbrev pub invariant-loop-line : goal.invariant-loop-line
invariant-loop-line l = l.steps.items ≡ map (step_plan l.nodes) (take l.line-index l.lines)
