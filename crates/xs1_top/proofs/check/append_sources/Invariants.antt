use Rattle.std.proofs.Common.{◌≡◌, ◌++◌, take}
use Rattle.std.specs.List.{flat_map}
use Rattle.answer_model.specs.CheckForm.{source_section}
use Rattle.xs1_top.proofs.check.append_sources.Given as goal

abbrev pub invariant-loop-node : goal.invariant-loop-node
invariant-loop-node l = l.out ≡ l.initial.out ++ flat_map source_section (take l.node-index l.nodes)
