use Rattle.std.proofs.Common.{◌<◌, ◌≤◌, ◌++◌, [], ◌∷◌, length, ap, sym, ◌∙◌, arith}
use Rattle.std.proofs.lemmas.List.{take_all}
use Rattle.serial_model.specs.Serial.{serial}
use Rattle.vcd_writer.specs.Tells.{levels_of}
use Rattle.vcd_writer.proofs.Levels.{nodes_count, levels_count, levels_more}
use Rattle.vcd_writer.proofs.changes.all_levels.Goals as goal

pub loop-node-preserved : goal.loop-node-preserved
loop-node-preserved c =
    let plan = c.args.plan.now in
    let slot = c.args.machine.now.now in
    let n = c.loop-node.node in
    let known = c.loop-node.invariant in
    let inside : n < length (serial plan slot).nodes = omega (arith, ap length c.nodes-node-end.ensures.value, c.loop-node-test.true, nodes_count plan slot) in
    record {
      count = omega (arith, c.push.ensures.len, known.count);
      levels = c.push.ensures.items ∙ (λ i. known.levels i ++ c.levels.ensures i ∷ []) ∙ sym (levels_more (serial plan slot).nodes n inside);
    }

pub returns : goal.returns
returns c =
    let plan = c.args.plan.now in
    let slot = c.args.machine.now.now in
    let all : length (levels_of (serial plan slot).nodes) ≤ c.loop-node.node = omega (arith, ap length c.nodes-node-end.ensures.value, c.loop-node-test.false, levels_count plan slot) in
    c.loop-node.invariant.levels ∙ take_all c.loop-node.node (levels_of (serial plan slot).nodes) all
