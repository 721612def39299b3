use Rattle.std.proofs.Common.{◌≡◌, map, List, None, false, ap₂, rules, arith}
use Rattle.xs_model.specs.Record.{SyncRec, LockRec}
use Rattle.sync_locks.specs.Syncs.{SyncsRec}
use Rattle.sync_locks.specs.States.{sync_of, lock_of, unused_state}
use Rattle.made_lists.proofs.Made.{made_of}
use Rattle.sync_locks.proofs.syncs.Syncs.of_state.Goals as goal

pub returns : goal.returns
returns c =
    let syncs : c.map.result ≡ map sync_of c.args.syncs.now =
    made_of _ _ sync_of c.args.syncs.now c.map.result 7 unused_state (omega (arith, c.told-syncs)) c.map.ensures.items (λ p x y q called. search rules)
    in
    let locks : c.map-2.result ≡ map lock_of c.args.locks.now =
    made_of _ _ lock_of c.args.locks.now c.map-2.result 4 (record { used = false; owner = None }) (omega (arith, c.told-locks)) c.map-2.ensures.items (λ p x y q called. search rules)
    in
    record {
      value = ap₂ (λ (s : List SyncRec) (l : List LockRec). let all : SyncsRec = record { syncs = s; locks = l } in all) syncs locks;
    }
