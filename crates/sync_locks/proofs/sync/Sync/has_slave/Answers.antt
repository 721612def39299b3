use Rattle.sync_locks.proofs.Slaves.{is_member}
use Rattle.sync_locks.proofs.sync.Sync.has_slave.Goals as goal

pub returns : goal.returns
returns c =
    rw (← c.self.view_is) (rw (c.has_bit.ensures, c.from.ensures) (is_member c.self.inside.slaves c.args.thread c.requires))
