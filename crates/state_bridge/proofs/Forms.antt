-- What may be so of a node has the form of its block.
use Rattle.std.proofs.Common.{◌≡◌, ℕ, ◌<◌, ◌≤◌, ◌^◌, Bool, List, length, sym, ◌∙◌, arith}
use Rattle.std.proofs.lemmas.Bool.{lt-ltb}
use Rattle.std.specs.Prelude.{map, nat_lt}
use Rattle.xs_base.specs.Numbers.{Slot}
use Rattle.core_step.specs.States.{IsNodeState, IsStateBefore}
use Rattle.core_step.specs.declared.node_state.NodeState.{NodeState}
use Rattle.snap_parts.specs.declared.node.SnapNode.{SnapNode}
use Rattle.state_forms.proofs.Locks.{locks_of}
use Rattle.state_forms.proofs.Rest.{division_of, levels_of, memory_of}
use Rattle.switch_forms.specs.Inputs.{inputs}
use Rattle.switch_forms.proofs.InputFacts.{inputs_of}
use Rattle.switch_forms.proofs.HeldFacts.{are_held}
use Rattle.node_forms.specs.Nodes.{used_of, core_fields, core_in, enable_fields, enables_in, net_fields, net_in, node_state, snap_node}
use Rattle.node_forms.proofs.Threads.{state_again}
use Rattle.state_bridge.specs.Fits.{NumbersFit}
use Rattle.state_bridge.proofs.Parts.{before_word, threads_have, chans_have, timers_have, clocks_have, syncs_have, ports_all_have, enables_have, ends_there, ends_have}

module _ (gaps : List ℕ) (slot : Slot) (s : NodeState) (eight : length gaps ≡ 8) (early : slot < 4294967296) (is : IsNodeState gaps s) (before : IsStateBefore slot s) (fits : NumbersFit s) where
  abbrev there : List Bool
  there = map (λ gap. nat_lt 0 gap) gaps

  core_has : (core_fields slot).Holds (core_in s)
  unfolding core_fields
  core_has = (
    threads_have slot s.threads s.last early fits.threads fits.last is.units.threads before.last,
    (
      chans_have s.chans fits.chans is.units.chans,
      (
        timers_have s.timers fits.timers,
        (
          clocks_have s.clocks fits.clocks,
          (
            syncs_have s.threads s.last s.syncs fits.threads.count fits.last fits.syncs is.units.syncs is.slaves,
            (locks_of 4 s.locks fits.locks is.units.locks, ports_all_have s.ports fits.ports is.units.ports),
          ),
        ),
      ),
    ),
  )

  enables_all_have : enable_fields.Holds (enables_in s)
  unfolding enable_fields
  enables_all_have = (
    enables_have 32 s.chan_enables fits.chan_enables is.units.chan_enables,
    (enables_have 10 s.timer_enables fits.timer_enables is.units.timer_enables, enables_have 29 s.port_enables fits.port_enables is.units.port_enables),
  )

  inputs_have : (inputs (used_of s.chans) there).Holds s.inputs
  inputs_have =
      let plan = ends_there gaps slot s.ends eight is.there in
      inputs_of (used_of s.chans) there s.inputs fits.inputs.count fits.inputs.each (record {
        are = is.inputs;
        held = are_held s.chans s.ends s.inputs there plan is.inputs is.held.chans is.held.ends (record { used = is.held.used; present = is.held.present });
      })

  net_has : (net_fields (used_of s.chans) there slot).Holds (net_in s)
  unfolding net_fields
  net_has = (
    inputs_have,
    (
      ends_have gaps slot s.ends eight early fits.ends is.ends is.there before.ends,
      (
        division_of slot s.division (before_word slot early s.division before.division).0 before.division,
        (levels_of s.levels fits.levels.count fits.levels.each is.levels, memory_of s.memory fits.size fits.memory),
      ),
    ),
  )

  pub state_has : (node_state there slot).Holds s
  unfolding node_state
  state_has = ((core_has, (enables_all_have, net_has)), state_again s (fits.threads.count ∙ sym fits.last))

pub node_has : (gaps : List ℕ) (slot : Slot) (node : SnapNode) → length gaps ≡ 8 → slot < 2 ^ 32 → node.kept ≤ 262144 → node.more < 2 ^ 63
    → IsNodeState gaps node.state → IsStateBefore slot node.state → NumbersFit node.state → (snap_node (map (λ gap. nat_lt 0 gap) gaps) slot).Holds node
unfolding snap_node
node_has gaps slot node eight early few less is before fits =
    let below : node.kept < 262145 = omega (arith, few) in (
      (omega (arith, few), lt-ltb node.kept 262145 below),
      ((omega (arith, less), lt-ltb node.more (2 ^ 63) less), state_has gaps slot node.state eight early is before fits),
    )
