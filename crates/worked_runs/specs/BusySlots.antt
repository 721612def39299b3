-- Busy slots that were worked out by hand.
use Rattle.std.specs.Prelude.{ℕ, ◌≡◌, true, false, Option, Some, None, [], ◌∷◌, filter, replicate}
use Rattle.xs_model.specs.declared.clock.Clock.TheVariants.{Block}
use Rattle.xs_model.specs.Record.{ClockRec, NodeRec, PortRec, first_node, off_port, off_clock, Want}
use Rattle.xs_model.specs.PortActions.{on_port}
use Rattle.xs_instructions.specs.declared.instr.Instr.TheVariants.{Words, Memory, Threads}
use Rattle.xs_instructions.specs.declared.instr.WordIns.TheVariants as words
use Rattle.xs_instructions.specs.declared.instr.MemIns.TheVariants as memory
use Rattle.xs_instructions.specs.declared.instr.ThreadIns.TheVariants as threads
use Rattle.sys_plan.specs.Plan.{PlanRec}
use Rattle.quiet_model.specs.Still.{still}
use Rattle.quiet_model.specs.Stirs.{ports_stir}
use Rattle.busy_slots.specs.Busy.{is_busy, busy_count}
use Rattle.worked_runs.specs.Systems.{plain_node, talking_pair}

-- one node that executes five instructions and is done
abbrev pub five_instructions : PlanRec
five_instructions = record {
  nodes = plain_node 0 (
      Words (words.Ldc 0 5) ∷ Words (words.Ldc 1 7) ∷ Words (words.Add 2 0 1) ∷ Memory (memory.StwDp 2 0) ∷ Threads threads.Freet ∷ []
      ) [] ∷ [];
  links = [];
  script = [];
  steps = [];
  wires = [];
}

-- a node that never had a thread, whose port 1A is this
abbrev pub with_port_1a : PortRec → NodeRec
with_port_1a port =
    let node = first_node 0 0 [] in record node { core = record node.core { ports = port ∷ replicate 28 off_port } }

-- a port of one pin that drives it, and has a value to put out, at this time if there is one
abbrev pub about_to_put : ℕ → Option ℕ → PortRec
about_to_put counter time = record (on_port 1) { output = true; driven = Some 0; counter = counter; transfer = Some (record { value = 1; bits = 1; time = time }) }

-- A thread alone issues in every fourth slot. Node 0 of the pair issues in slots 0, 4, 8, 12 and 16; from slot 13 to slot 25 it
-- sends a packet; and four credits come, in slots 23, 27, 31 and 35. At node 1 a thread issues in slots 0 and 4; tokens come in
-- slots 18, 22 and 26, and END in slot 30, in which the thread goes on; in slot 27 the packet looks for its channel end.
pub record BusySlots : Type 0 where
  pub alone : busy_count five_instructions 0 20 ≡ 5
  pub sends : busy_count talking_pair 0 40 ≡ 20
  pub takes : busy_count talking_pair 1 40 ≡ 8
  pub sending : filter (is_busy talking_pair 0) (11 ∷ 12 ∷ 13 ∷ 14 ∷ 25 ∷ 26 ∷ 27 ∷ 28 ∷ 31 ∷ 35 ∷ 36 ∷ []) ≡ 12 ∷ 13 ∷ 14 ∷ 25 ∷ 27 ∷ 31 ∷ 35 ∷ []
  pub taking : filter (is_busy talking_pair 1) (0 ∷ 1 ∷ 4 ∷ 8 ∷ 17 ∷ 18 ∷ 19 ∷ 22 ∷ 26 ∷ 27 ∷ 28 ∷ 30 ∷ 31 ∷ 34 ∷ 38 ∷ [])
      ≡ 0 ∷ 4 ∷ 18 ∷ 22 ∷ 26 ∷ 27 ∷ 30 ∷ 34 ∷ []

-- A port that is on samples while its direction is input, and shifts while bits are left; neither counts where it is off. A packet
-- that wants a way is on its way.
pub record StillNodes : Type 0 where
  pub first : still (first_node 0 0 []) ≡ true
  pub samples : still (with_port_1a (on_port 1)) ≡ false
  pub puts_out : still (with_port_1a (about_to_put 0 None)) ≡ true
  pub shifts : still (with_port_1a (record (on_port 1) { output = true; shift = 1 ∷ [] })) ≡ false
  pub off : still (with_port_1a (record off_port { shift = 1 ∷ [] })) ≡ true
  pub wants : still (record (first_node 0 0 []) { inputs = Want (record { node = 1; chan = 2 }) 0 ∷ [] }) ≡ false

-- a clock block that runs and rises in every eighth slot
abbrev divided_by_8 : ClockRec
divided_by_8 = record off_clock { on = true; running = true; divider = 1 }

-- The reference clock falls in slots 2, 6 and 10. Without a time a transfer begins at the next falling edge; with a time at the
-- edge that makes the counter that time, also past 65,535; and by a clock block that does not run at none.
pub record NextTransfers : Type 0 where
  pub at_once : filter (λ slot. ports_stir [] slot (about_to_put 7 None ∷ [])) (0 ∷ 1 ∷ 2 ∷ 3 ∷ 4 ∷ 6 ∷ []) ≡ 2 ∷ 6 ∷ []
  pub in_time : filter (λ counter. ports_stir [] 2 (about_to_put counter (Some 8) ∷ [])) (6 ∷ 7 ∷ 8 ∷ []) ≡ 7 ∷ []
  pub goes_round : ports_stir [] 2 (about_to_put 65535 (Some 0) ∷ []) ≡ true
  pub stopped : ports_stir (record off_clock { on = true } ∷ []) 2 (record (about_to_put 7 None) { clock = Block 0 } ∷ []) ≡ false
  pub divided : filter (λ slot. ports_stir (divided_by_8 ∷ []) slot (record (about_to_put 7 None) { clock = Block 0 } ∷ [])) (2 ∷ 4 ∷ 6 ∷ 8 ∷ 12 ∷ []) ≡ 4 ∷ 12 ∷ []
  pub empty : ports_stir [] 2 (record (about_to_put 7 None) { transfer = None } ∷ []) ≡ false
