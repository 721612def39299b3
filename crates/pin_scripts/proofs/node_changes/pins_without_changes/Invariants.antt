use Rattle.std.proofs.Common.{◌≡◌, [], replicate}
use Rattle.pin_scripts.proofs.node_changes.pins_without_changes.Given as goal

abbrev pub invariant-loop : goal.invariant-loop
invariant-loop l = l.pins.items ≡ replicate l.counter []
