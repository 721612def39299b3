use Rattle.system_text.proofs.Planned.{frame_plan}
use Rattle.system_text.proofs.system_reader.plan_of_frame.Goals as goal

pub of-requires : goal.of-requires
of-requires c = record {
  parts =
      frame_plan c.args.frame.now _ _ _ _ _ _ _ _ _ c.requires c.nodes-given.ensures c.links.ensures c.wires.ensures c.steps.ensures c.in_ok-nodes.ensures
      c.in_ok-links.ensures.plans c.in_ok-wires.ensures.plans c.in_ok-steps.ensures.steps
      (record { lines = c.in_ok-script.ensures.lines; named = c.in_ok-script.ensures.nodes });
}
