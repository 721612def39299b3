use Rattle.std.proofs.Common.{◌+◌, List, [], ◌++◌, get_or, take, drop}
use Rattle.std.proofs.lemmas.List.{take_more, drop_more, drop_all}
use Rattle.sync_locks.specs.declared.state.SyncState.{SyncState}
use Rattle.sync_locks.specs.States.{unused_state}
use Rattle.byte_forms.specs.Forms.{Form, write_chain}
use Rattle.byte_forms.proofs.Lists.{writes_on, writes_all}
use Rattle.state_forms.specs.Syncs.{sync}
use Rattle.state_forms.proofs.sync.write_syncs.Goals as goal

pub loop-state-preserved : goal.loop-state-preserved
loop-state-preserved c = λ taken.
    let form : List SyncState → Form SyncState = sync taken in
    let xs = c.args.states.now in
    let i = c.loop-state.state-index in
    let so_far = rw (drop_more xs i unused_state c.loop-state-test.true) at c.loop-state.invariant taken in
    rw (c.in_ok-write_sync.ensures.value taken (take i xs), take_more xs i unused_state c.loop-state-test.true)
    (writes_on form c.loop-state.out (take i xs) (get_or xs i unused_state) (drop (i + 1) xs) (c.args.out.now ++ write_chain form [] xs) so_far)

pub returns : goal.returns
returns c =
    let xs = c.args.states.now in
    let i = c.loop-state.state-index in
    record {
      value = λ taken.
          let form : List SyncState → Form SyncState = sync taken in
          let so_far = rw (drop_all i xs c.loop-state-test.false) at c.loop-state.invariant taken in
          writes_all form c.loop-state.out (take i xs) (c.args.out.now ++ write_chain form [] xs) so_far;
    }
