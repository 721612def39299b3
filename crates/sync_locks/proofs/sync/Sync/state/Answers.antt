use Rattle.std.proofs.Common.{◌≡◌, ap, sym, ◌∙◌, is_some}
use Rattle.std.specs.Option.{unwrap_or}
use Rattle.sync_locks.specs.declared.state.SyncState.{SyncState}
use Rattle.sync_locks.specs.States.{mask_of}
use Rattle.sync_locks.proofs.Masks.{mask-again}
use Rattle.sync_locks.proofs.sync.Sync.state.Goals as goal

pub returns : goal.returns
returns c =
    let slaves : c.slaves.result ≡ mask_of c.args.self.now.slaves = sym (mask-again c.slaves.result c.slaves.type_inv) ∙ ap mask_of c.slaves.ensures.value in
    rw (c.is_used.ensures, c.unwrap_or.ensures, c.master.ensures)
    (ap (λ n. let state : SyncState = record { used = is_some c.args.self.now.master; master = unwrap_or c.args.self.now.master 0; slaves = n } in state) slaves)
