use Rattle.std.proofs.Common.{◌≡◌, ◌++◌, [], take, drop}
use Rattle.xs_base.specs.Numbers.{Slot}
use Rattle.sys_plan.specs.Plan.{PlanRec}
use Rattle.byte_forms.specs.Forms.{write_chain}
use Rattle.snap_codec.specs.Body.{node_after}
use Rattle.snap_codec.proofs.nodes.write_nodes.Given as goal

abbrev pub invariant-loop-node : goal.invariant-loop-node
invariant-loop-node l =
    (plan : PlanRec) (slot : Slot) → l.out ++ write_chain (node_after plan slot) (take l.node-index l.all) (drop l.node-index l.all)
    ≡ l.fn.out ++ write_chain (node_after plan slot) [] l.all
