use Rattle.std.proofs.Common.{◌≡◌}
use Rattle.xs_assembler.proofs.Addresses.{addressed}
use Rattle.xs_assembler.proofs.assembler.symbols.Given as goal

abbrev pub invariant-loop-k : goal.invariant-loop-k
invariant-loop-k l = (l.symbols.labels ≡ addressed l.whole l.k l.initial.symbols.labels l.place-items) × (l.symbols.key ≡ l.initial.symbols.key)
