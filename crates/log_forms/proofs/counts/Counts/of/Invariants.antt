use Rattle.std.proofs.Common.{◌≡◌, take}
use Rattle.log_forms.specs.Entries.{counts_of}
use Rattle.log_forms.proofs.counts.Counts.of.Given as goal

abbrev pub invariant-loop-e : goal.invariant-loop-e
invariant-loop-e l = l.counts ≡ counts_of (take l.e-index l.entries)
