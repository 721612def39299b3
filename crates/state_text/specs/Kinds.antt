-- The kinds of resources that may give an event, each told in its own way.
use Rattle.std.specs.Prelude.{ℕ, List}
use Rattle.xs_base.specs.Numbers.{Slot, NodeId}
use Rattle.core_step.specs.declared.node_state.NodeState.{NodeState}
use Rattle.look_model.specs.Waits.{chan_tells, timer_tells, port_tells}
use Rattle.state_text.specs.declared.enabled.Kind.{Kind}
use Rattle.state_text.specs.declared.enabled.Kind.TheVariants.{Chans, Timers, Ports}

-- a resource of a kind, by its number
abbrev pub tells : Kind → NodeId → Slot → NodeState → ℕ → List ℕ
tells Chans id slot state = chan_tells id state
tells Timers id slot state = timer_tells slot state
tells Ports id slot state = port_tells state
