use Rattle.std.proofs.Common.{ℕ, ◌<◌, arith}
use Rattle.std.proofs.lemmas.List.Elements.{recursion_from_All}
use Rattle.range_laws.proofs.runnable.are_bytes.Goals as goal

pub returns : goal.returns
returns c = recursion_from_All (λ (b : ℕ). b < 256) c.args.bytes.now (λ k d lt. c.loop-b.invariant k d (omega arith) (omega (arith, lt)))
