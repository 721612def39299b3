use Rattle.std.proofs.Common.{◌≡◌, drop}
use Rattle.look_model.specs.Waits.{sync_from}
use Rattle.state_text.proofs.seen.sync_of.Given as goal

abbrev pub invariant-loop-n : goal.invariant-loop-n
invariant-loop-n l = sync_from l.k l.n (drop l.n l.syncs) ≡ sync_from l.k 0 l.syncs
