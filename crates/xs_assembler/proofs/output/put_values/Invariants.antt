use Rattle.std.proofs.Common.{◌≡◌, ◌++◌, take}
use Rattle.std.specs.Prelude.{flat_map}
use Rattle.source_model.specs.Values.{little_endian}
use Rattle.xs_assembler.proofs.output.put_values.Given as goal

abbrev pub invariant-loop-value : goal.invariant-loop-value
invariant-loop-value l = l.bytes.items ≡ l.initial.bytes.items ++ flat_map (little_endian l.width) (take l.value-index l.values)
