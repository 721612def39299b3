use Rattle.std.proofs.Common.{◌≡◌, drop}
use Rattle.system_model.specs.System.{ends_for}
use Rattle.system_text.proofs.node_plans.ends_for.Given as goal

abbrev pub invariant-loop-line : goal.invariant-loop-line
invariant-loop-line l = ends_for (drop l.line-index l.bits) l.number l.bit ≡ ends_for l.bits l.number l.bit
