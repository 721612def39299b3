use Rattle.std.specs.Prelude.{ℕ, ◌<◌}
use Rattle.std.specs.List.{AllWithin}
use Rattle.range_laws.proofs.runnable.are_bytes.Given as goal

-- those before this one are bytes
abbrev pub invariant-loop-b : goal.invariant-loop-b
invariant-loop-b l = AllWithin (λ (b : ℕ). b < 256) l.bytes 0 l.b-index
