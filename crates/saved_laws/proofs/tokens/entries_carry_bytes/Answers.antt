use Rattle.std.proofs.Common.{arith}
use Rattle.std.proofs.lemmas.List.Elements.{recursion_from_All}
use Rattle.xs_base.specs.declared.entry.Entry.{Entry}
use Rattle.saved_laws.specs.Bytes.{CarriesByte}
use Rattle.saved_laws.proofs.tokens.entries_carry_bytes.Goals as goal

pub returns : goal.returns
returns c = record {
  bytes = recursion_from_All (λ (e : Entry). CarriesByte e.what) c.args.entries.now (λ k d lt. c.loop-e.invariant k d (omega arith) (omega (arith, lt)));
}
