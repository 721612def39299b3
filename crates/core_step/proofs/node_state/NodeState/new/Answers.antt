use Rattle.std.proofs.Common.{◌≡◌, replicate, rules}
use Rattle.xs_model.specs.Record.{unused_chan}
use Rattle.chan_ends.specs.States.{chan_state}
use Rattle.chan_ends.specs.declared.state.ChanState.{ChanState}
use Rattle.link_ends.specs.States.{absent_end}
use Rattle.link_ends.specs.declared.state.EndState.{EndState}
use Rattle.core_step.proofs.Alike.{all_alike}
use Rattle.core_step.proofs.States.{nothing}
use Rattle.core_step.proofs.node_state.NodeState.new.Goals as goal

pub returns : goal.returns
returns c =
    let chans : c.default-chans.result ≡ replicate 32 (chan_state unused_chan) =
    all_alike ChanState _ (chan_state unused_chan) c.default-chans.result 32 c.default-chans.ensures (λ a is. search (rules, is))
    in
    let ends : c.default-ends.result ≡ replicate 8 absent_end = all_alike EndState _ absent_end c.default-ends.result 8 c.default-ends.ensures (λ a is. search (rules, is)) in
    record {
      none =
          nothing c.free_thread.result c.default-chans.result c.off.result c.default-ends.result c.in_ok-memory.memory
          c.free_thread.ensures chans c.off.ensures ends c.in_ok-memory.ensures.image;
    }
