use Rattle.std.proofs.Common.{◌≡◌, false}
use Rattle.state_forms.proofs.Slaves.{some_below}
use Rattle.state_forms.proofs.sync.some_cannot_be_slave.Given as goal

-- none of the threads before this one is wrong
abbrev pub invariant-loop-thread : goal.invariant-loop-thread
invariant-loop-thread l = some_below l.taken l.before l.slaves l.thread ≡ false
