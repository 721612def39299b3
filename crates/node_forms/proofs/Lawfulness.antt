-- The form of a node's block is lawful.
use Rattle.std.proofs.Common.{◌≡◌, ℕ, ◌+◌, ◌^◌, Bool, List, [], ◌∷◌, refl, ap}
use Rattle.std.specs.Prelude.{Option, map}
use Rattle.std.specs.List.{zip}
use Rattle.xs_base.specs.Numbers.{Slot}
use Rattle.xs_base.specs.declared.numbers.TheConstants.{THREADS, CHAN_ENDS, TIMERS, CLOCK_BLOCKS, LOCKS, PORTS}
use Rattle.xs_model.specs.declared.thread.Thread.{Thread}
use Rattle.xs_model.specs.FirstEvents.{kept_at_most}
use Rattle.byte_forms.specs.Laws.{Lawful}
use Rattle.byte_forms.proofs.Fields.{word-lawful, long-lawful}
use Rattle.byte_forms.proofs.Parts.{both-lawful, below-lawful, seen-lawful, told-lawful}
use Rattle.byte_forms.proofs.Lists.{repeat-lawful}
use Rattle.state_forms.proofs.Threads.{thread-lawful}
use Rattle.state_forms.proofs.Chans.{chan-lawful}
use Rattle.state_forms.proofs.Timers.{timer-lawful, clock-lawful}
use Rattle.state_forms.proofs.Syncs.{syncs-lawful}
use Rattle.state_forms.proofs.Locks.{lock-lawful}
use Rattle.state_forms.proofs.Enables.{enable-lawful}
use Rattle.state_forms.proofs.Rest.{division-lawful, levels-lawful, memory-lawful}
use Rattle.port_forms.proofs.Ports.{ports-lawful}
use Rattle.switch_forms.proofs.Inputs.{inputs-lawful}
use Rattle.switch_forms.proofs.Ends.{link_ends-lawful}
use Rattle.node_forms.specs.Nodes.{taken_of, used_of, core_fields, enable_fields, net_fields, NodeFields, state_of_fields, fields_of_state, node_state, node_of_fields, fields_of_node, snap_node}

core-lawful : (slot : Slot) → Lawful (core_fields slot)
unfolding core_fields
core-lawful slot =
    both-lawful (repeat-lawful THREADS (thread-lawful slot)) (λ threads. both-lawful (repeat-lawful CHAN_ENDS chan-lawful) (λ chans.
    both-lawful (repeat-lawful TIMERS timer-lawful) (λ timers. both-lawful (repeat-lawful CLOCK_BLOCKS clock-lawful) (λ clocks.
    both-lawful (syncs-lawful (taken_of threads)) (λ syncs. both-lawful (repeat-lawful LOCKS lock-lawful) (λ locks. ports-lawful))))))

enables-lawful : Lawful enable_fields
unfolding enable_fields
enables-lawful = both-lawful (repeat-lawful CHAN_ENDS enable-lawful) (λ chans. both-lawful (repeat-lawful TIMERS enable-lawful) (λ timers. repeat-lawful PORTS enable-lawful))

net-lawful : (used there : List Bool) (slot : Slot) → Lawful (net_fields used there slot)
unfolding net_fields
net-lawful used there slot =
    both-lawful (inputs-lawful used there) (λ inputs. both-lawful (link_ends-lawful there slot) (λ ends.
    both-lawful (division-lawful slot) (λ division. both-lawful levels-lawful (λ levels. memory-lawful))))

-- pairs are the pairs of their firsts and seconds
pub pairs_again : {A B : Type 0} (ps : List (A × B)) → zip (map (λ (p : A × B). p.0) ps) (map (λ (p : A × B). p.1) ps) ≡ ps
pairs_again [] = refl
pairs_again {A} {B} (p ∷ ps) = ap (λ (rest : List (A × B)). p ∷ rest) (pairs_again ps)

fields_back : (f : NodeFields) → fields_of_state (state_of_fields f) ≡ f
fields_back f = λ i. ((pairs_again f.0.0 i, f.0.1), f.1)

pub node_state-lawful : (there : List Bool) (slot : Slot) → Lawful (node_state there slot)
unfolding node_state
node_state-lawful there slot =
    told-lawful state_of_fields fields_of_state (both-lawful (core-lawful slot) (λ core. both-lawful enables-lawful (λ enables. net-lawful (used_of core.1.0) there slot))) (λ f h. fields_back f)

pub snap_node-lawful : (there : List Bool) (slot : Slot) → Lawful (snap_node there slot)
unfolding snap_node
snap_node-lawful there slot =
    seen-lawful node_of_fields fields_of_node (both-lawful (below-lawful (kept_at_most + 1) word-lawful) (λ kept. both-lawful (below-lawful (2 ^ 63) long-lawful) (λ more. node_state-lawful there slot)))
    (λ f h. refl) (λ n. refl)
