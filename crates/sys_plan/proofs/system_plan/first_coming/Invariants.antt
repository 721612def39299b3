use Rattle.std.proofs.Common.{◌≡◌, ◌*◌, drop}
use Rattle.sys_plan.specs.Plan.{link_arcs, first_arc, comes_to}
use Rattle.sys_plan.proofs.system_plan.first_coming.Given as goal

-- no link so far is there
abbrev pub invariant-loop-link : goal.invariant-loop-link
invariant-loop-link l = record {
  number : l.number ≡ 2 * l.link-index;
  rest : first_arc (comes_to l.node l.end) 0 (link_arcs l.links) ≡ first_arc (comes_to l.node l.end) l.number (link_arcs (drop l.link-index l.links));
}
