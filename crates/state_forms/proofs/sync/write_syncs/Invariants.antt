use Rattle.std.proofs.Common.{◌≡◌, ◌++◌, Bool, List, [], take, drop}
use Rattle.byte_forms.specs.Forms.{write_chain}
use Rattle.state_forms.specs.Syncs.{sync}
use Rattle.state_forms.proofs.sync.write_syncs.Given as goal

abbrev pub invariant-loop-state : goal.invariant-loop-state
invariant-loop-state l =
    (taken : List Bool) → l.out ++ write_chain (sync taken) (take l.state-index l.states) (drop l.state-index l.states) ≡ l.fn.out ++ write_chain (sync taken) [] l.states
