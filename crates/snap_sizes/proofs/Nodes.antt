-- How many bytes the block of a node has, and how many tokens there are in its buffers at most.
use Rattle.std.proofs.Common.{◌≡◌, ◌+◌, ◌*◌, ◌≤◌, Bool, true, false, is_some, List, [], length, refl, arith}
use Rattle.std.specs.Prelude.{zip, slice_index_or}
use Rattle.std.specs.List.{sum_by}
use Rattle.std.proofs.lemmas.List.{length-append}
use Rattle.xs_base.specs.Numbers.{Slot}
use Rattle.chan_ends.specs.declared.state.ChanState.{ChanState}
use Rattle.link_ends.specs.declared.state.EndState.{EndState}
use Rattle.core_step.specs.declared.node_state.NodeState.{NodeState}
use Rattle.snap_parts.specs.declared.node.SnapNode.{SnapNode}
use Rattle.byte_forms.specs.Forms.{Form}
use Rattle.state_forms.specs.Threads.{thread}
use Rattle.state_forms.specs.Chans.{chan}
use Rattle.state_forms.specs.Timers.{timer, clock}
use Rattle.state_forms.specs.Syncs.{sync}
use Rattle.state_forms.specs.Locks.{lock}
use Rattle.state_forms.specs.Enables.{enable}
use Rattle.state_forms.specs.Rest.{level_after, levels, memory}
use Rattle.state_forms.proofs.BufferFacts.{buffer_holds}
use Rattle.port_forms.specs.Ports.{next_port, ports}
use Rattle.switch_forms.specs.Inputs.{input}
use Rattle.switch_forms.specs.Ends.{link_end}
use Rattle.node_forms.specs.Nodes.{taken_of, used_of, core_fields, core_in, enable_fields, enables_in, net_fields, net_in, node_state, snap_node}
use Rattle.snap_sizes.specs.Sizes.{tokens_at_chan, tokens_at_end, tokens_of_node}
use Rattle.snap_sizes.proofs.Chains.{chain_alike, chain_linear, chain_most}
use Rattle.snap_sizes.proofs.Fields.{chan_size, end_size, thread_size, timer_size, clock_size, sync_size, lock_size, enable_size, port_size, input_size}

-- ---- Bytes

core_size : (slot : Slot) (s : NodeState) → (core_fields slot).Holds (core_in s) → length ((core_fields slot).write (core_in s)) ≡ 2460 + 2 * sum_by tokens_at_chan s.chans
unfolding core_fields ports
core_size slot s h =
    let pairs = zip s.threads s.last in
    let threads = chain_alike (λ _. thread slot) 8 109 (λ _ th k. thread_size slot th k) pairs h.0 in
    let chans = chain_linear (λ _. chan) 32 9 2 tokens_at_chan (λ _ c k. chan_size c k) s.chans h.1.0 in
    let timers = chain_alike (λ _. timer) 10 6 (λ _ t _. timer_size t) s.timers h.1.1.0 in
    let clocks = chain_alike (λ _. clock) 6 3 (λ _ c _. clock_size c) s.clocks h.1.1.1.0 in
    let syncs = chain_alike (sync (taken_of pairs)) 7 3 (λ before t _. sync_size (taken_of pairs) before t) s.syncs h.1.1.1.1.0 in
    let locks = chain_alike (λ _. lock) 4 3 (λ _ l _. lock_size l) s.locks h.1.1.1.1.1.0 in
    let all = chain_alike next_port 29 41 (λ before p _. port_size (length before) p) s.ports h.1.1.1.1.1.1 in
    simp length-append (omega (arith, threads, chans, timers, clocks, syncs, locks, all))

enables_size : (s : NodeState) → enable_fields.Holds (enables_in s) → length (enable_fields.write (enables_in s)) ≡ 710
unfolding enable_fields
enables_size s h =
    let chans = chain_alike (λ _. enable) 32 10 (λ _ e _. enable_size e) s.chan_enables h.0 in
    let timers = chain_alike (λ _. enable) 10 10 (λ _ e _. enable_size e) s.timer_enables h.1.0 in
    let ports = chain_alike (λ _. enable) 29 10 (λ _ e _. enable_size e) s.port_enables h.1.1 in
    simp length-append (omega (arith, chans, timers, ports))

-- the link end that comes after these
abbrev end_at : List Bool → Slot → List EndState → Form EndState
end_at there slot before = link_end (slice_index_or there (length before) false) slot

net_size : (used there : List Bool) (slot : Slot) (s : NodeState) → (net_fields used there slot).Holds (net_in s)
    → length ((net_fields used there slot).write (net_in s)) ≡ 66121 + 2 * sum_by tokens_at_end s.ends
unfolding net_fields levels memory
net_size used there slot s h =
    let inputs = chain_alike (input used there) 40 10 (λ before i _. input_size used there before i) s.inputs h.0 in
    let ends = chain_linear (end_at there slot) 8 8 2 tokens_at_end (λ before e k. end_size (slice_index_or there (length before) false) slot e k) s.ends h.1.0 in
    let pins = chain_alike level_after 29 4 (λ before n _. refl) s.levels h.1.1.1.0 in
    simp length-append (omega (arith, inputs, ends, pins, h.1.1.1.1.0))

pub node_size : (there : List Bool) (slot : Slot) (n : SnapNode) → (snap_node there slot).Holds n → length ((snap_node there slot).write n) ≡ 69303 + 2 * tokens_of_node n
unfolding snap_node node_state
node_size there slot n h =
    let fields = h.1.1.0 in
    let core = core_size slot n.state fields.0 in
    let enables = enables_size n.state fields.1.0 in
    let net = net_size (used_of n.state.chans) there slot n.state fields.1.1 in
    simp length-append (omega (arith, core, enables, net))

-- ---- Tokens

chan_most : (c : ChanState) → chan.Holds c → tokens_at_chan c ≤ 16
unfolding chan
chan_most c h = omega (arith, (buffer_holds (is_some c.dest) c.output h.1.1.1.0).0, (buffer_holds true c.input h.1.1.1.1).0)

end_most : (there : Bool) (slot : Slot) (e : EndState) → (link_end there slot).Holds e → tokens_at_end e ≤ 8
unfolding link_end
end_most there slot e h = omega (arith, (buffer_holds there e.buffer h.1.0).0)

pub node_most : (there : List Bool) (slot : Slot) (n : SnapNode) → (snap_node there slot).Holds n → tokens_of_node n ≤ 576
unfolding snap_node node_state core_fields net_fields
node_most there slot n h =
    let fields = h.1.1.0 in
    let chans = fields.0.1.0 in
    let ends = fields.1.1.1.0 in
    let at_chans = chain_most (λ _. chan) 16 tokens_at_chan (λ _ c k. chan_most c k) [] n.state.chans chans.1 in
    let at_ends = chain_most (end_at there slot) 8 tokens_at_end (λ before e k. end_most (slice_index_or there (length before) false) slot e k) [] n.state.ends ends.1 in
    omega (arith, at_chans, at_ends, chans.0, ends.0)
