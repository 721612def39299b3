use Rattle.std.proofs.Common.{◌≡◌, ◌++◌, [], take, drop}
use Rattle.byte_forms.specs.Forms.{write_chain}
use Rattle.log_forms.specs.Entries.{any_entry}
use Rattle.log_forms.proofs.log.write_entries.Given as goal

abbrev pub invariant-loop-e : goal.invariant-loop-e
invariant-loop-e l =
    l.out ++ write_chain (λ before. any_entry) (take l.e-index l.entries) (drop l.e-index l.entries) ≡ l.fn.out ++ write_chain (λ before. any_entry) [] l.entries
