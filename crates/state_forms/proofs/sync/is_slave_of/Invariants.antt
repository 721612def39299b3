use Rattle.std.proofs.Common.{◌≡◌, false, take}
use Rattle.std.specs.List.{list_any}
use Rattle.xs_model.specs.Masks.{in_mask}
use Rattle.state_forms.proofs.sync.is_slave_of.Given as goal

-- none of those before this one does
abbrev pub invariant-loop-state : goal.invariant-loop-state
invariant-loop-state l = list_any (λ s. in_mask s.slaves l.thread) (take l.state-index l.states) ≡ false
