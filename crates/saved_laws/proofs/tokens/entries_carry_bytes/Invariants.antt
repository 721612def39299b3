use Rattle.std.specs.List.{AllWithin}
use Rattle.xs_base.specs.declared.entry.Entry.{Entry}
use Rattle.saved_laws.specs.Bytes.{CarriesByte}
use Rattle.saved_laws.proofs.tokens.entries_carry_bytes.Given as goal

-- those before this one carry bytes
abbrev pub invariant-loop-e : goal.invariant-loop-e
invariant-loop-e l = AllWithin (λ (e : Entry). CarriesByte e.what) l.entries 0 l.e-index
