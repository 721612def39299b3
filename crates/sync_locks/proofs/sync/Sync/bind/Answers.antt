use Rattle.std.proofs.Common.{sym, ◌∙◌}
use Rattle.sync_locks.proofs.Slaves.{bound_after}
use Rattle.sync_locks.proofs.sync.Sync.bind.Goals as goal

pub returns-clause-after : goal.returns-clause-after
returns-clause-after c =
    rw (← c.self.view_is) (bound_after c.args.by c.args.slave c.self.inside.slaves c.self.inside.master c.requires (sym c.ne.ensures ∙ c.if-ne.false))
