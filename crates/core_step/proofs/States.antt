-- What a snapshot keeps of a core, and the core that it says.
use Rattle.std.proofs.Common.{ℕ, ◌≡◌, List, [], length, replicate, ap, sym, ◌∙◌, subst}
use Rattle.std.specs.Prelude.{map}
use Rattle.xs_model.specs.declared.thread.Thread.{Thread}
use Rattle.xs_model.specs.Record.{CoreRec, NodeRec, InputRec, PortRec, unused_chan, free_thread}
use Rattle.xs_model.specs.Memory.{first_memory}
use Rattle.single_port.specs.declared.state.PortState.{PortState}
use Rattle.buffered_ports.specs.States.{off_state}
use Rattle.chan_ends.specs.States.{chan_state}
use Rattle.chan_ends.specs.declared.state.ChanState.{ChanState}
use Rattle.link_ends.specs.States.{absent_end}
use Rattle.link_ends.specs.declared.state.EndState.{EndState}
use Rattle.switch_routes.specs.Rows.{AllCountsOf}
use Rattle.switch_routes.specs.States.{input_state, place_state, link_of}
use Rattle.switch_routes.specs.declared.state.InputState.{InputState}
use Rattle.core_step.specs.PinLevels.{levels_kept}
use Rattle.core_step.specs.Core.{CoreValue, StandsFor, StandsAt}
use Rattle.core_step.specs.Network.{row_by}
use Rattle.core_step.specs.States.{core_rec, node_rec, node_state, with_core, no_state, link_state, IsNodeState, IsStateBefore}
use Rattle.core_step.specs.declared.node_state.NodeState.{NodeState}
use Rattle.core_step.proofs.Said.{row_stands, links_before, ends_are}

abbrev kept_of : NodeState → CoreRec → List InputState → List EndState → List ℕ → NodeState
kept_of old core inputs ends levels = record (with_core old core) { inputs = inputs; ends = ends; levels = levels }

-- what is kept of a core is what is kept of each node that it stands for
pub state_is : (value : CoreValue) (rec : NodeRec) (old new : NodeState) → StandsFor value rec
    → new ≡ record (with_core old value.core) { inputs = map input_state value.inputs; ends = map place_state value.links; levels = levels_kept value.core.ports value.levels } → new ≡ node_state rec
state_is value rec old new for is =
    is
    ∙ ap (λ levels. kept_of old value.core (map input_state value.inputs) (map place_state value.links) levels) for.levels
    ∙ ap (λ ends. kept_of old value.core (map input_state value.inputs) ends rec.levels) (ends_are value.links rec.links for.links)
    ∙ ap (λ (inputs : List InputRec). kept_of old value.core (map input_state inputs) (map link_state rec.links) rec.levels) for.inputs
    ∙ ap (λ (core : CoreRec). kept_of old core (map input_state rec.inputs) (map link_state rec.links) rec.levels) for.core

-- a core with what a state says stands for the node that it says
pub stands_by : (value : CoreValue) (gaps : List ℕ) (state : NodeState) (slot : ℕ) → length gaps ≡ length state.ends → IsNodeState gaps state → value.core ≡ core_rec state
    → ((ports : List PortRec) → levels_kept ports value.levels ≡ state.levels) → value.inputs ≡ (node_rec state).inputs → value.links ≡ row_by gaps state.ends → IsStateBefore slot state
    → StandsAt value (node_rec state) slot
stands_by value gaps state slot same is core levels inputs links before = record {
  stands = record {
    core = core;
    levels = levels value.core.ports;
    inputs = inputs;
    links = subst (λ row. AllCountsOf row (map link_of state.ends)) (sym links) (row_stands gaps state.ends same is.ends);
  };
  links = links_before slot state.ends before.ends;
}

-- ---- The state of nothing

abbrev made_of : Thread → List ChanState → PortState → List EndState → List ℕ → NodeState
made_of thread chans port ends memory =
    record no_state { threads = replicate 8 thread; chans = chans; ports = replicate 29 port; ends = ends; memory = memory }

pub nothing : (thread : Thread) (chans : List ChanState) (port : PortState) (ends : List EndState) (memory : List ℕ) → thread ≡ free_thread → chans ≡ replicate 32 (chan_state unused_chan)
    → port ≡ off_state → ends ≡ replicate 8 absent_end → memory ≡ first_memory [] → made_of thread chans port ends memory ≡ no_state
nothing thread chans port ends memory its_thread its_chans its_port its_ends its_memory =
    ap (λ (t : Thread). made_of t chans port ends memory) its_thread
    ∙ ap (λ (cs : List ChanState). made_of free_thread cs port ends memory) its_chans
    ∙ ap (λ (p : PortState). made_of free_thread (replicate 32 (chan_state unused_chan)) p ends memory) its_port
    ∙ ap (λ (es : List EndState). made_of free_thread (replicate 32 (chan_state unused_chan)) off_state es memory) its_ends
    ∙ ap (λ (m : List ℕ). made_of free_thread (replicate 32 (chan_state unused_chan)) off_state (replicate 8 absent_end) m) its_memory
