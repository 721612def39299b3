-- One slot of a node.
use Rattle.std.specs.Prelude.{ℕ, Bool, if◌then◌else◌, Option, Some, None, List, [], ◌∷◌, ◌++◌}
use Rattle.xs_base.specs.Numbers.{Slot, Word, ThreadNumber}
use Rattle.xs_model.specs.declared.thread.Thread.{Thread}
use Rattle.xs_model.specs.declared.thread.Run.TheVariants.{Going, Paused, Halted}
use Rattle.xs_model.specs.declared.traps.TheConstants.{ILLEGAL_PC}
use Rattle.xs_model.specs.declared.event.Happen.{Happen}
use Rattle.xs_model.specs.declared.event.Happen.TheVariants as happen
use Rattle.xs_model.specs.declared.outside.Arrivals.{Arrivals}
use Rattle.xs_model.specs.declared.outside.PinView.{PinView}
use Rattle.xs_model.specs.Record.{CoreRec, NodeRec, EnablingRec, thread_of, with_thread, with_run, with_last}
use Rattle.xs_model.specs.Outside.{Emitted}
use Rattle.xs_model.specs.AtWork.{AtWork, slot_begins, emitted_in}
use Rattle.xs_model.specs.Ports.{PortsEdged, edges_from, levels_of}
use Rattle.xs_model.specs.Picks.{picked}
use Rattle.xs_model.specs.Choices.{choice}
use Rattle.xs_model.specs.Entry.{trapped, return_address, entered}
use Rattle.xs_instructions.specs.declared.instr.Instr.{Instr}
use Rattle.xs_instructions.specs.Code.{is_code_place, code_at}
use Rattle.net_model.specs.Links.{arrive}
use Rattle.net_model.specs.Switch.{moves, chan_is_busy}
use Rattle.step_model.specs.Fixed.{Fixed}
use Rattle.step_model.specs.Effect.{Setting, Effect, Done, Pause, Trap, Gone}
use Rattle.step_model.specs.Rows.{effect}

-- ---- The issue

-- the core after an issue, and what happened
pub record Issued : Type 0 where
  pub core : CoreRec
  pub happened : List Happen

abbrev pub quietly : CoreRec → Issued
quietly core = record { core = core; happened = [] }

-- a thread halts where no code stands at its pc
abbrev pub halt_unless : Bool → ThreadNumber → Thread → List Happen → CoreRec → Issued
halt_unless code_stands k th happened core =
    if code_stands
    then record { core = with_thread core k th; happened = happened }
    else record { core = with_thread core k (record th { run = Halted }); happened = happened ++ (happen.Halt k ∷ []) }

-- thread k traps; it halts where no code stands at its handler's address
abbrev pub trap : List Instr → CoreRec → ThreadNumber → ℕ → Word → Issued
trap code core k number value =
    let next = return_address number (thread_of core k) in
    let th = trapped (thread_of core k) number value next in
    halt_unless (is_code_place code th.pc) k th (happen.Trap k number next value ∷ []) core

-- what the issue by thread k leaves, from what its instruction does
abbrev pub settled : List Instr → CoreRec → ThreadNumber → Effect → Issued
settled code core k (Done after happened) = record { core = after; happened = happened }
settled code core k (Pause after wait happened) = record { core = with_run after k (Paused wait); happened = happened }
settled code core k (Trap number value) = trap code core k number value
settled code core k (Gone after happened) = record { core = after; happened = happened }

-- the instruction at the thread's pc is executed, or none stands there
abbrev pub executed : List Instr → Setting → CoreRec → ThreadNumber → Option Instr → Issued
executed code here core k None = trap code core k ILLEGAL_PC (thread_of core k).pc
executed code here core k (Some ins) = settled code core k (effect here core k ins)

-- the slot is thread k's last issue now, and it goes: its pause, if it was paused, is over
abbrev pub issue_begins : CoreRec → Slot → ThreadNumber → CoreRec
issue_begins core slot k = with_run (with_last core k slot) k Going

-- the issue goes by what the thread takes, if anything: then no instruction is executed
abbrev pub issued_with : List Instr → Setting → CoreRec → ThreadNumber → Option EnablingRec → Issued
issued_with code here core k (Some taken) = quietly (with_thread core k (entered taken (thread_of core k)))
issued_with code here core k None = executed code here core k (code_at code (thread_of core k).pc)

abbrev pub issued_by : List Instr → Setting → CoreRec → Option ThreadNumber → Issued
issued_by code here core None = quietly core
issued_by code here core (Some k) =
    let core' = issue_begins core here.slot k in issued_with code here core' k (choice core' here.slot k)

-- at most one issue, by the thread that is picked
abbrev pub issued : List Instr → Setting → CoreRec → Issued
issued code here core = issued_by code here core (picked core here.slot)

-- ---- A slot reads from top to bottom as its four phases. Phase 1 is `arrive`, and phase 3 `moves`.

-- Phase 2: the edges of the ports' clocks, which are those of the clock blocks as the slot begins. The levels of strobes
-- are those of the end of the slot before.
abbrev pub after_edges : AtWork → PortsEdged → AtWork
after_edges m edged = record m {
  rec = record m.rec { core = record m.rec.core { ports = edged.ports } };
  happened = m.happened ++ edged.happened;
}

abbrev pub ports_step : Slot → PinView → AtWork → AtWork
ports_step slot pins m =
    after_edges m (edges_from slot m.rec.core.clocks m.rec.levels 0 m.rec.core.ports pins.level)

-- where an instruction is issued in a slot
abbrev pub setting_of : Fixed → Slot → PinView → NodeRec → Setting
setting_of fixed slot pins rec = record {
  edition = fixed.edition;
  id = fixed.routes.id;
  slot = slot;
  outside = pins.level;
  is_busy = λ c. chan_is_busy rec c;
}

abbrev pub and_issued : AtWork → Issued → AtWork
and_issued m i = record m { rec = record m.rec { core = i.core }; happened = m.happened ++ i.happened }

-- Phase 4: at most one issue.
abbrev pub issue : Fixed → Slot → PinView → AtWork → AtWork
issue fixed slot pins m = and_issued m (issued fixed.code (setting_of fixed slot pins m.rec) m.rec.core)

-- At the end of the slot what the pins show is noted.
abbrev pub note_levels : PinView → AtWork → AtWork
note_levels pins m = record m { rec = record m.rec { levels = levels_of m.rec.core.ports pins.level } }

-- the node in a slot before its issue
abbrev pub before_issue : Fixed → NodeRec → Slot → Arrivals → PinView → AtWork
before_issue fixed rec slot arrivals pins =
    -- 1. what comes by links is put into the buffers, and credits are counted
    let arrived = arrive slot arrivals (slot_begins rec) in
    -- 2. the edges of the ports' clocks
    let edged = ports_step slot pins arrived in
    -- 3. the inputs of the switch, from the lowest up
    moves fixed.routes slot edged

-- the node in a slot, after its four phases
abbrev pub after_phases : Fixed → NodeRec → Slot → Arrivals → PinView → AtWork
after_phases fixed rec slot arrivals pins =
    let moved = before_issue fixed rec slot arrivals pins in
    -- 4. at most one issue; then what the pins show is noted
    note_levels pins (issue fixed slot pins moved)

-- a node after a slot, and what the slot gave to the outside
pub record Stepped : Type 0 where
  pub rec : NodeRec
  pub emitted : Emitted

-- one slot of a node: arrivals, ports, switch, and at most one issue
unfoldable pub node_step : Fixed → NodeRec → Slot → Arrivals → PinView → Stepped
node_step fixed rec slot arrivals pins =
    let m = after_phases fixed rec slot arrivals pins in record { rec = m.rec; emitted = emitted_in slot m }
