use Rattle.std.proofs.Common.{◌≡◌, ◌++◌, ℕ, Bool, false, List, [], length, take, drop}
use Rattle.std.specs.Prelude.{slice_index_or}
use Rattle.byte_forms.specs.Forms.{write_chain}
use Rattle.switch_forms.specs.Ends.{link_end}
use Rattle.switch_forms.proofs.link_end.write_link_ends.Given as goal

abbrev pub invariant-loop-end : goal.invariant-loop-end
invariant-loop-end l =
    (there : List Bool) (slot : ℕ) →
    l.out ++ write_chain (λ before. link_end (slice_index_or there (length before) false) slot) (take l.end-index l.ends) (drop l.end-index l.ends)
    ≡ l.fn.out ++ write_chain (λ before. link_end (slice_index_or there (length before) false) slot) [] l.ends
