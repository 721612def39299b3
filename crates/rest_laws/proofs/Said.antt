-- What a snapshot says of the nodes of every run is alike what they are.
use Rattle.std.proofs.Common.{ℕ, ◌≡◌, ◌<◌, Bool, Option, Some, None, List, [], ◌∷◌, length, map, get_or, refl, arith}
use Rattle.std.specs.Prelude.{IfSome}
use Rattle.std.specs.List.{AllByRecursion, AllZip}
use Rattle.xs_base.specs.Ids.{port_width}
use Rattle.xs_base.specs.Numbers.{Slot, Position, ChanNumber, EndNumber, InputNumber}
use Rattle.xs_model.specs.Record.{NodeRec, SyncRec, PortRec, LinkRec, InputRec, Idle, Head1, Head2, Want, Local, Out, Lost, unused_sync, off_port, first_node}
use Rattle.chan_ends.specs.States.{chan_state, chan_of}
use Rattle.timers_clocks.specs.States.{timer_state, timer_of, clock_state, clock_of}
use Rattle.sync_locks.specs.States.{sync_state, sync_of, lock_state, lock_of}
use Rattle.event_unit.specs.States.{enable_state, enable_of}
use Rattle.port_laws.specs.Facts.{HasFacts}
use Rattle.single_port.specs.States.{port_state, port_of}
use Rattle.switch_routes.specs.States.{IsInput, link_of}
use Rattle.switch_routes.proofs.States.{inputs-again}
use Rattle.core_step.specs.States.{link_state, node_state, core_rec}
use Rattle.core_step.proofs.Said.{links_before}
use Rattle.sys_plan.specs.Plan.{PlanRec, IsPlan, gaps_of}
use Rattle.serial_model.specs.Serial.{serial}
use Rattle.link_laws.specs.Windows.{LinksAlike, Paired, NodesAlike, IsNodeBefore}
use Rattle.locality_laws.specs.Locality.{node_in}
use Rattle.state_laws.specs.Facts.{MayBeKept, AreOfMask, SlavesFit, PortsFit, InputFits}
use Rattle.state_laws.specs.Laws.{KeptMayBeRead}
use Rattle.state_laws.specs.Runs.{RunInRange, KeptInEveryRun}
use Rattle.rest_laws.specs.Rest.{said, AreSaid, IsByteDest, HasByteDests, NodesAreSaid, RestIsTrace}
use Rattle.rest_laws.proofs.Units.{all_again, each_again, all_of, one_of, one_within, all_within, sync_is, port_is, IsCredited, link_is}
use Rattle.rest_laws.proofs.Credits.{AreCredited, credited}
use Rattle.rest_laws.proofs.Along.{reached}
use Rattle.rest_laws.proofs.Saved.{said_rest_is_trace}

-- ---- The core

sync_again : (sync : SyncRec) → AreOfMask sync.slaves → sync_of (sync_state sync) ≡ sync
sync_again sync (mask, fits, is) = sync_is sync mask fits is

abbrev IsSomePort : PortRec → Type 0
IsSomePort port = (width : ℕ) × HasFacts width port

port_again : (port : PortRec) → IsSomePort port → port_of (port_state port) ≡ port
port_again port (width, facts) = port_is width port facts

core_again : (rec : NodeRec) → SlavesFit rec.core → PortsFit rec.core → core_rec (node_state rec) ≡ rec.core
core_again rec slaves ports =
    let core = rec.core in
    let syncs = all_again sync_state sync_of (λ (s : SyncRec). AreOfMask s.slaves) sync_again core.syncs (all_of (λ (s : SyncRec). AreOfMask s.slaves) unused_sync core.syncs slaves.masks) in
    let its_ports = all_again port_state port_of IsSomePort port_again core.ports (all_of IsSomePort off_port core.ports (λ p. (port_width p, (ports p).0))) in
    λ i. record core {
      chans = each_again chan_state chan_of (λ c. refl) core.chans i;
      timers = each_again timer_state timer_of (λ t. refl) core.timers i;
      clocks = each_again clock_state clock_of (λ c. refl) core.clocks i;
      syncs = syncs i;
      locks = each_again lock_state lock_of (λ l. refl) core.locks i;
      ports = its_ports i;
      enabled = record {
        chans = each_again enable_state enable_of (λ e. refl) core.enabled.chans i;
        timers = each_again enable_state enable_of (λ e. refl) core.enabled.timers i;
        ports = each_again enable_state enable_of (λ e. refl) core.enabled.ports i;
      };
    }

-- ---- The switch and the link ends

is_input : (used : ChanNumber → Bool) (there : EndNumber → Bool) (i : InputNumber) (input : InputRec) → InputFits used there i input → IsByteDest input → IsInput input
is_input used there i Idle fits byte = tt
is_input used there i (Head1 high) fits byte = tt
is_input used there i (Head2 high low) fits byte = tt
is_input used there i (Want dest net) fits byte = (byte, fits)
is_input used there i (Local chan) fits byte = fits.0
is_input used there i (Out end headers dest) fits byte = (fits.0, fits.1, byte)
is_input used there i Lost fits byte = tt

inputs_are : (used : ChanNumber → Bool) (there : EndNumber → Bool) (inputs : List InputRec) → ((i : InputNumber) → InputFits used there i (get_or inputs i Idle)) → AllByRecursion IsByteDest inputs → AllByRecursion IsInput inputs
inputs_are used there inputs fit bytes = all_of IsInput Idle inputs (λ i. is_input used there i (get_or inputs i Idle) (fit i) (one_of IsByteDest Idle inputs i tt bytes))

links_alike : (links : List (Option LinkRec)) → AllByRecursion (λ link. IfSome link IsCredited) links → AllZip (Paired LinksAlike) (map link_of (map link_state links)) links
links_alike [] h = tt
links_alike (None ∷ links) h = (tt, links_alike links h.1)
links_alike (Some link ∷ links) h = (link_is link h.0, links_alike links h.1)

-- ---- A node

node_alike : (gaps : List ℕ) (slot : Slot) (rec : NodeRec) → MayBeKept gaps slot rec → HasByteDests rec → AreCredited rec → NodesAlike (said rec) rec
node_alike gaps slot rec h bytes credited = record {
  core = core_again rec h.slaves h.pins.ports;
  inputs = inputs-again rec.inputs (inputs_are _ _ rec.inputs h.switch.inputs.each bytes);
  levels = refl;
  links = links_alike rec.links credited;
}

node_before : KeptMayBeRead → (gaps : List ℕ) (slot : Slot) (rec : NodeRec) → MayBeKept gaps slot rec → IsNodeBefore slot (said rec)
node_before read gaps slot rec h = links_before slot (map link_state rec.links) (read gaps slot rec h).before.ends

-- ---- All nodes

zipped : (recs : List NodeRec) → AllByRecursion (λ rec. NodesAlike (said rec) rec) recs → AllZip NodesAlike (map said recs) recs
zipped [] h = tt
zipped (rec ∷ recs) h = (h.0, zipped recs h.1)

mapped : (slot : Slot) (recs : List NodeRec) → AllByRecursion (λ rec. IsNodeBefore slot (said rec)) recs → AllByRecursion (IsNodeBefore slot) (map said recs)
mapped slot [] h = tt
mapped slot (rec ∷ recs) h = (h.0, mapped slot recs h.1)

module _ (kept : KeptInEveryRun) (read : KeptMayBeRead) (plan : PlanRec) (is : IsPlan plan) (code : RunInRange plan.nodes) (slot : Slot) (bytes : AllByRecursion HasByteDests (serial plan slot).nodes) where
  abbrev recs : List NodeRec
  recs = (serial plan slot).nodes

  inside : (n : Position) → n < length recs → n < length plan.nodes
  inside n h = omega (arith, h, (reached plan slot).many_nodes)

  alike_at : (n : Position) → n < length recs → NodesAlike (said (node_in (serial plan slot) n)) (node_in (serial plan slot) n)
  alike_at n h =
      node_alike (gaps_of plan n) slot (node_in (serial plan slot) n) (kept plan slot n is code (inside n h)) (one_within HasByteDests (first_node 0 0 []) recs n h bytes)
      (credited kept plan is code n (inside n h) slot)

  are_said : AreSaid slot recs
  are_said = record {
    alike = zipped recs (all_within (λ rec. NodesAlike (said rec) rec) (first_node 0 0 []) recs alike_at);
    before = mapped slot recs (all_within (λ rec. IsNodeBefore slot (said rec)) (first_node 0 0 []) recs (λ n h. node_before read (gaps_of plan n) slot (node_in (serial plan slot) n) (kept plan slot n is code (inside n h))));
  }

pub nodes_are_said : KeptInEveryRun → KeptMayBeRead → NodesAreSaid
nodes_are_said kept read plan slot is code bytes = are_said kept read plan is code slot bytes

pub rest_of_every_run : KeptInEveryRun → KeptMayBeRead → RestIsTrace
rest_of_every_run kept read plan slot slots is code bytes past = said_rest_is_trace plan slot slots (are_said kept read plan is code slot bytes) past
