use Rattle.node_runners.proofs.Levels.{awaits-level}
use Rattle.node_runners.proofs.wire_inlets.WireInlets.look_for.Goals as goal

pub invariant_of-self : goal.invariant_of-self
invariant_of-self c = awaits-level 4294967295 c.nearest_level-self-inside.result _ c.deref.result.now c.deref.ensures.value c.nearest_level-self-inside.ensures
