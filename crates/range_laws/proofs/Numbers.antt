-- The numbers of a node's state are of its types.
use Rattle.std.proofs.Common.{◌≡◌, ℕ, suc, ◌<◌, ◌^◌, Option, Some, None, List, [], ◌∷◌, length, map, get_or, sym, ap, subst, ◌∙◌, arith}
use Rattle.std.specs.Prelude.{IfSome, option_map}
use Rattle.std.specs.List.{AllByRecursion}
use Rattle.std.proofs.lemmas.List.{length-map}
use Rattle.xs_base.specs.Numbers.{Slot}
use Rattle.xs_base.specs.Ids.{port_width}
use Rattle.xs_model.specs.Record.{NodeRec, InputRec, LinkRec, SyncRec, PortRec, TransferRec, ChanRec, Idle, Head1, Head2, Want, Local, Out, Lost, first_node, unused_sync, off_port, sync_of, port_of}
use Rattle.sys_plan.specs.declared.NodePlan.{NodePlan}
use Rattle.sys_plan.specs.Plan.{gaps_of}
use Rattle.serial_model.specs.Serial.{serial}
use Rattle.port_laws.specs.Facts.{HasFacts, is_off, is_on, IsTransfer}
use Rattle.chan_ends.specs.States.{chan_state}
use Rattle.timers_clocks.specs.States.{timer_state, clock_state}
use Rattle.sync_locks.specs.States.{mask_of, sync_state, lock_state}
use Rattle.sync_locks.proofs.Masks.{mask-again}
use Rattle.single_port.specs.States.{port_state, transfer_state}
use Rattle.event_unit.specs.States.{enable_state}
use Rattle.switch_routes.specs.States.{input_state}
use Rattle.core_step.specs.States.{link_state, node_state}
use Rattle.locality_laws.specs.Levels.{ShownLevelsFit}
use Rattle.locality_laws.specs.Locality.{node_in}
use Rattle.state_laws.specs.Facts.{MayBeKept, AreOfMask}
use Rattle.state_laws.specs.Runs.{KeptInEveryRun}
use Rattle.state_forms.specs.Chans.{ChanFits}
use Rattle.port_forms.specs.Ports.{FitsHalves}
use Rattle.switch_forms.specs.Inputs.{InputFits}
use Rattle.state_bridge.specs.Fits.{AreSuch, TimerFits, ClockFits, SyncFits, EnableFits, EndFits, NumbersFit}
use Rattle.rest_laws.specs.Rest.{IsByteDest, HasByteDests}
use Rattle.range_laws.specs.Ranges.{NumbersOfRunsFit, RunsHaveByteDests}
use Rattle.range_laws.proofs.Lists.{all_at, all_made}
use Rattle.range_laws.proofs.Core.{IsByte, ChanWords, TimerWord, ClockByte, EnablingWords}
use Rattle.range_laws.proofs.Rows.{shown_word}
use Rattle.range_laws.proofs.Switch.{InputRange, LinkRange, NodeRange}
use Rattle.range_laws.proofs.Runs.{AllRange, run_in_range, nodes_range}

-- ---- Parts

such_made : {A B : Type 0} (P : A → Type 0) (Q : B → Type 0) (many : ℕ) (f : A → B) → ((x : A) → P x → Q (f x)) → (xs : List A) → AreSuch P many xs → AreSuch Q many (map f xs)
such_made P Q many f so xs h = record { count = length-map xs f ∙ h.count; each = all_made P Q f so xs h.each }

-- where it is so at each place
each_made : {A B : Type 0} (Q : B → Type 0) (d : A) (f : A → B) → (xs : List A) → ((i : ℕ) → Q (f (get_or xs i d))) → AllByRecursion Q (map f xs)
each_made Q d f [] each = tt
each_made Q d f (x ∷ xs) each = (each 0, each_made Q d f xs (λ i. each (suc i)))

chan_says : (chan : ChanRec) → ChanWords chan → ChanFits (chan_state chan)
chan_says chan h = record { dest = h.dest; output = h.output; input = h.input }

sync_says : (sync : SyncRec) → AreOfMask sync.slaves → SyncFits (sync_state sync)
sync_says sync (mask, fits, is) =
    let same : mask_of sync.slaves ≡ mask = ap mask_of is ∙ mask-again mask fits in subst (λ (n : ℕ). n < 2 ^ 8) (sym same) fits

time_says : (w tw : ℕ) (transfer : Option TransferRec) → IfSome transfer (IsTransfer w tw) → IfSome (option_map transfer_state transfer) (λ tr. IfSome tr.time (λ t. t < 2 ^ 16))
time_says w tw None h = tt
time_says w tw (Some t) h = h.time

port_says : (w : ℕ) (port : PortRec) → HasFacts w port → FitsHalves (port_state port)
port_says w _ is_off = record { counter = omega arith; time = tt; transfer_time = tt; sample_stamp = omega arith; stamp = omega arith }
port_says w _ (is_on port is) = record { counter = is.counter; time = is.time; transfer_time = time_says w port.transfer_width port.transfer is.transfer; sample_stamp = is.sample_stamp; stamp = is.stamp }

input_says : (input : InputRec) → InputRange input → InputFits (input_state input)
input_says Idle h = tt
input_says (Head1 high) h = h
input_says (Head2 high low) h = h
input_says (Want dest net) h =
    let node = h.node in
    let chan = h.chan in
    omega (arith, node, chan)
input_says (Local chan) h = tt
input_says (Out end headers dest) h =
    let node = h.node in
    let chan = h.chan in
    omega (arith, node, chan)
input_says Lost h = tt

end_says : (link : Option LinkRec) → LinkRange link → EndFits (link_state link)
end_says None h = record { count = omega arith; tokens = tt }
end_says (Some link) h = h

-- ---- A node

pub numbers_fit : (gaps : List ℕ) (slot : Slot) (rec : NodeRec) → MayBeKept gaps slot rec → NodeRange rec → NumbersFit (node_state rec)
numbers_fit gaps slot rec kept h =
    let core = rec.core in
    record {
      threads = h.core.threads;
      last = h.core.last;
      chans = such_made ChanWords ChanFits 32 chan_state chan_says core.chans h.core.chans;
      timers = such_made TimerWord TimerFits 10 timer_state (λ timer is. is) core.timers h.core.timers;
      clocks = such_made ClockByte ClockFits 6 clock_state (λ clock is. is) core.clocks h.core.clocks;
      syncs = record { count = length-map core.syncs sync_state ∙ h.core.syncs; each = each_made SyncFits unused_sync sync_state core.syncs (λ n. sync_says (sync_of core n) (kept.slaves.masks n)) };
      locks = length-map core.locks lock_state ∙ h.core.locks;
      ports = record {
        count = length-map core.ports port_state ∙ h.core.ports;
        each = each_made FitsHalves off_port port_state core.ports (λ p. port_says (port_width p) (port_of core p) (kept.pins.ports p).0);
      };
      chan_enables = such_made EnablingWords EnableFits 32 enable_state (λ e is. is) core.enabled.chans h.core.enabled.chans;
      timer_enables = such_made EnablingWords EnableFits 10 enable_state (λ e is. is) core.enabled.timers h.core.enabled.timers;
      port_enables = such_made EnablingWords EnableFits 29 enable_state (λ e is. is) core.enabled.ports h.core.enabled.ports;
      inputs = such_made InputRange InputFits 40 input_state input_says rec.inputs h.inputs;
      ends = such_made LinkRange EndFits 8 link_state end_says rec.links h.links;
      levels = record { count = h.levels; each = λ p. shown_word 0 rec.levels p kept.pins.levels };
      size = h.core.memory.size;
      memory = λ i. all_at IsByte 0 (omega arith) core.memory i h.core.memory.bytes;
    }

-- ---- Destinations

dest_is : (input : InputRec) → InputRange input → IsByteDest input
dest_is Idle h = tt
dest_is (Head1 high) h = tt
dest_is (Head2 high low) h = tt
dest_is (Want dest net) h = h.chan
dest_is (Local chan) h = tt
dest_is (Out end headers dest) h = h.chan
dest_is Lost h = tt

dests_are : (inputs : List InputRec) → AllByRecursion InputRange inputs → AllByRecursion IsByteDest inputs
dests_are [] all = tt
dests_are (input ∷ inputs) all = (dest_is input all.0, dests_are inputs all.1)

-- ---- Every node of a run

-- what is so of each node, by its place
all_of : (Q : NodeRec → Type 0) (nodes : List NodePlan) (recs : List NodeRec)
    → ((k : ℕ) → k < length nodes → NodeRange (get_or recs k (first_node 0 0 [])) → Q (get_or recs k (first_node 0 0 []))) → AllRange nodes recs → AllByRecursion Q recs
all_of Q [] [] so range = tt
all_of Q [] (rec ∷ recs) so range = absurd range
all_of Q (node ∷ nodes) [] so range = absurd range
all_of Q (node ∷ nodes) (rec ∷ recs) so range = (so 0 (omega arith) range.0, all_of Q nodes recs (λ k low. so (suc k) (omega (arith, low))) range.1)

module _ (shown : ShownLevelsFit) (kept : KeptInEveryRun) where
  pub numbers_of_runs_fit : NumbersOfRunsFit
  numbers_of_runs_fit plan slot is runs =
      all_of (λ rec. NumbersFit (node_state rec)) plan.nodes (serial plan slot).nodes
      (λ k low range. numbers_fit (gaps_of plan k) slot (node_in (serial plan slot) k) (kept plan slot k is (run_in_range plan.nodes runs) low) range)
      (nodes_range shown kept plan is runs slot)

  pub runs_have_byte_dests : RunsHaveByteDests
  runs_have_byte_dests plan slot is runs =
      all_of HasByteDests plan.nodes (serial plan slot).nodes
      (λ k low range. let rec = node_in (serial plan slot) k in dests_are rec.inputs range.inputs.each) (nodes_range shown kept plan is runs slot)
