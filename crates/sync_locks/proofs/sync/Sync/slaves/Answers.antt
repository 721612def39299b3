use Rattle.sync_locks.proofs.Slaves.{is_member}
use Rattle.sync_locks.proofs.sync.Sync.slaves.Goals as goal

pub returns-clause-bits : goal.returns-clause-bits
returns-clause-bits c = rw (← c.self.view_is) (λ k within. is_member c.self.inside.slaves k within)
