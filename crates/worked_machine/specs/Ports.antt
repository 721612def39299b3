-- Ports, worked out by hand edge by edge: what a port keeps and drives, and two programs in the slots of their runs.
use Rattle.std.specs.Prelude.{ℕ, zero, suc, ◌≡◌, ◌+◌, Bool, true, false, nat_lt, if◌then◌else◌, Option, Some, None, List, [], ◌∷◌, ◌++◌, replicate}
use Rattle.xs_base.specs.Numbers.{Slot, Word}
use Rattle.xs_model.specs.declared.clock.Clock.TheVariants.{Reference}
use Rattle.xs_model.specs.declared.event.Event.{Event}
use Rattle.xs_model.specs.declared.event.Happen.TheVariants as happen
use Rattle.xs_model.specs.declared.outside.PinView.{PinView}
use Rattle.xs_model.specs.declared.pins.PinChange.TheVariants.{Float}
use Rattle.xs_model.specs.declared.thread.Wait.TheVariants.{PortFull, PortEmpty, PortIdle}
use Rattle.xs_model.specs.declared.thread.Run.TheVariants.{Free}
use Rattle.xs_model.specs.Memory.{load_word}
use Rattle.xs_model.specs.Outside.{in_slot, low_pins}
use Rattle.xs_model.specs.Record.{NodeRec, PortRec, Equal, first_node, thread_of}
use Rattle.xs_model.specs.Time.{edge_at}
use Rattle.xs_model.specs.Ports.{came_in, level_of, port_edge}
use Rattle.xs_model.specs.PortActions.{Did, Got, Waits, Refused, on_port, turned_out, filled, with_condition, buffered, with_transfer_width, set_time, set_transfer_width, take_in, take_part, put_out, end_in, sync, in_mode}
use Rattle.xs_instructions.specs.declared.instr.Instr.{Instr}
use Rattle.xs_instructions.specs.declared.instr.Instr.TheVariants.{Words, Memory, Threads, Resources}
use Rattle.xs_instructions.specs.declared.instr.WordIns.TheVariants as words
use Rattle.xs_instructions.specs.declared.instr.MemIns.TheVariants as memory
use Rattle.xs_instructions.specs.declared.instr.ThreadIns.TheVariants as threads
use Rattle.xs_instructions.specs.declared.instr.ResIns.TheVariants as resources
use Rattle.step_model.specs.Step.{Stepped, node_step}
use Rattle.worked_machine.specs.Slots.{node_of_code, no_arrivals}

-- ---- One port of this width on the reference clock, whose strobe is high or low

abbrev pub after_edge : ℕ → Bool → PortRec → Slot → Word → PortRec
after_edge width high port slot level = (port_edge width (edge_at [] Reference slot) (level_of port.driven level) high port).port

-- after slots from one on, in each of which its pins show a level
abbrev pub after_levels : ℕ → Bool → PortRec → Slot → List Word → PortRec
after_levels width high port slot [] = port
after_levels width high port slot (level ∷ levels) = after_levels width high (after_edge width high port slot level) (slot + 1) levels

-- what it drives after each of these slots
abbrev pub driven_over : ℕ → PortRec → Slot → ℕ → List (Option Word)
driven_over width port slot zero = []
driven_over width port slot (suc count) =
    let after = after_edge width false port slot 0 in after.driven ∷ driven_over width after (slot + 1) count

-- four slots with the same level
abbrev pub four : Word → List Word
four level = level ∷ level ∷ level ∷ level ∷ []

-- ---- Outputs

-- A 4-bit port is given 10 in slot 12, and drives it from its next falling edge on, in slot 14.
abbrev pub plain : PortRec
plain = filled 4 10 (turned_out (on_port 4))

-- A port of one pin is given 1 with the time 3: its counter is 3 after the falling edges in slots 2, 6 and 10.
abbrev pub timed_out : PortRec
timed_out = filled 1 1 (record (turned_out (on_port 1)) { time = Some 3 })

-- A port of one pin with transfers of 8 bits is given 0x55: its bits leave from the lowest on, one each falling edge.
abbrev pub bits_out : PortRec
bits_out = filled 8 0x55 (turned_out (with_transfer_width 8 (buffered (on_port 1))))

abbrev pub low_or_high : Word → List (Option Word)
low_or_high level = Some level ∷ Some level ∷ Some level ∷ Some level ∷ []

pub record WorkedOutputs : Type 0 where
  pub plain_wave : driven_over 4 plain 12 5 ≡ None ∷ None ∷ Some 10 ∷ Some 10 ∷ Some 10 ∷ []
  pub plain_stamp : (after_levels 4 false plain 12 (four 0)).stamp ≡ 1
  pub timed_wave : driven_over 1 timed_out 7 5 ≡ None ∷ None ∷ None ∷ None ∷ None ∷ []
  pub timed_later : driven_over 1 (after_levels 1 false timed_out 0 (four 0 ++ four 0)) 8 4 ≡ None ∷ None ∷ Some 1 ∷ Some 1 ∷ []
  pub timed_stamp : (after_levels 1 false timed_out 0 (four 0 ++ (four 0 ++ four 0))).stamp ≡ 3
  pub bits_wave : driven_over 1 bits_out 2 36 ≡
      low_or_high 1 ++ (low_or_high 0 ++ (low_or_high 1 ++ (low_or_high 0 ++ (low_or_high 1 ++ (low_or_high 0 ++ (low_or_high 1 ++ (low_or_high 0 ++ low_or_high 0)))))))
  pub bits_stamp : (after_levels 1 false bits_out 0 (four 0 ++ four 0)).stamp ≡ 1
  -- the transfer register is free for the next word once the first bit is out
  pub next_word : (after_levels 1 false bits_out 0 (four 0)).transfer ≡ None
  pub drained : sync 0 (after_levels 1 false bits_out 0 (four 0)) ≡ Waits (after_levels 1 false bits_out 0 (four 0)) (PortIdle 0) None
  pub full : put_out 0 1 bits_out ≡ Waits bits_out (PortEmpty 0) None

-- ---- Inputs

-- Transfers of 8 bits come in by one pin, at the rising edges in slots 0, 4 and so on: 1, 0, 1, 1, 0, 0, 1 and 0 make 0x4d.
abbrev pub bits_in : PortRec
bits_in = with_transfer_width 8 (buffered (on_port 1))

abbrev pub bit_levels : List Word
bit_levels = four 1 ++ (four 0 ++ (four 1 ++ (four 1 ++ (four 0 ++ (four 0 ++ (four 1 ++ four 0))))))

-- A port of one pin waits for 1, which comes between the rising edges in slots 4 and 8.
abbrev pub waits_for_1 : PortRec
waits_for_1 = with_condition Equal (record (on_port 1) { value = 1 })

-- A port of one pin has the time 2: it takes the level at the rising edge in slot 8, when its counter is 2, and keeps it.
abbrev pub timed_in : PortRec
timed_in = record (on_port 1) { time = Some 2 }

-- A port of one pin whose strobe is port 1.
abbrev pub strobed : PortRec
strobed = record (on_port 1) { strobe = Some 1 }

pub record WorkedInputs : Type 0 where
  pub seven_bits : (after_levels 1 false bits_in 0 (four 1 ++ (four 0 ++ (four 1 ++ (four 1 ++ (four 0 ++ (four 0 ++ four 1))))))).transfer ≡ None
  pub eight_bits : (after_levels 1 false bits_in 0 bit_levels).transfer ≡ Some (came_in 0x4d 8)
  pub bits_stamp : (after_levels 1 false bits_in 0 bit_levels).sample_stamp ≡ 7
  -- what comes in while the transfer register is full is dropped
  pub dropped : (after_levels 1 false bits_in 0 (bit_levels ++ bit_levels)).transfer ≡ Some (came_in 0x4d 8)
  pub dropped_stamp : (after_levels 1 false bits_in 0 (bit_levels ++ bit_levels)).sample_stamp ≡ 7
  -- `endin` after three bits, 1, 0 and 1
  pub three_bits : end_in (after_levels 1 false bits_in 0 (four 1 ++ (four 0 ++ four 1))) ≡
      Got (record (after_levels 1 false bits_in 0 (four 1 ++ (four 0 ++ four 1))) { transfer = Some (came_in 5 3); sample_stamp = 3; shift = [] }) 3
  pub not_yet : (after_levels 1 false waits_for_1 0 (four 0 ++ (0 ∷ 0 ∷ 1 ∷ 1 ∷ []))).transfer ≡ None
  pub met : (after_levels 1 false waits_for_1 0 (four 0 ++ (0 ∷ 0 ∷ 1 ∷ 1 ∷ 1 ∷ []))).transfer ≡ Some (came_in 1 1)
  pub met_stamp : (after_levels 1 false waits_for_1 0 (four 0 ++ (0 ∷ 0 ∷ 1 ∷ 1 ∷ 1 ∷ []))).sample_stamp ≡ 2
  pub before_its_time : (after_levels 1 false timed_in 0 (four 1 ++ four 1)).transfer ≡ None
  pub in_time : (after_levels 1 false timed_in 0 (four 0 ++ (four 0 ++ (1 ∷ [])))).transfer ≡ Some (came_in 1 1)
  pub held : (after_levels 1 false timed_in 0 (four 0 ++ (four 0 ++ (four 1 ++ four 0)))).transfer ≡ Some (came_in 1 1)
  pub held_stamp : (after_levels 1 false timed_in 0 (four 0 ++ (four 0 ++ (four 1 ++ four 0)))).sample_stamp ≡ 2
  pub strobe_low : (after_levels 1 false strobed 0 (four 1)).transfer ≡ None
  pub strobe_high : (after_levels 1 true strobed 0 (four 1)).transfer ≡ Some (came_in 1 1)
  pub counts_without : (after_levels 1 false strobed 0 (four 1)).counter ≡ 1

-- ---- Directions and modes

-- the 4-bit port 16 after it drove 10
abbrev pub drove : PortRec
drove = after_levels 4 false plain 12 (four 0)

pub record WorkedTurnsOfPorts : Type 0 where
  -- `in` lets go of the pins, and waits
  pub in_turns : take_in 16 None drove ≡ Waits (record drove { output = false; driven = None }) (PortFull 16) (Some Float)
  -- while something is left it waits for that first
  pub in_waits : take_in 16 None plain ≡ Waits plain (PortIdle 16) None
  -- `out` takes the condition and what was sampled away, and keeps the time
  pub out_turns : put_out 0 1 (record waits_for_1 { time = Some 7; transfer = Some (came_in 1 1); held = true }) ≡
      Did (record (on_port 1) { output = true; value = 1; transfer = Some (record { value = 1; bits = 1; time = Some 7 }) }) None
  pub time_drops_sample : set_time 0x10002 (record (on_port 1) { transfer = Some (came_in 1 1); held = true }) ≡ Did (record (on_port 1) { time = Some 2 }) None
  pub part_of_unbuffered : take_part 16 4 (on_port 4) ≡ Refused
  pub part_no_multiple : take_part 16 6 (with_transfer_width 8 (buffered (on_port 4))) ≡ Refused
  pub part : take_part 16 4 (with_transfer_width 8 (buffered (on_port 4))) ≡
      Waits (record (with_transfer_width 8 (buffered (on_port 4))) { wanted = 4 }) (PortFull 16) None
  pub width_of_unbuffered : set_transfer_width 4 8 (on_port 4) ≡ Refused
  pub width_below : set_transfer_width 4 1 (buffered (on_port 4)) ≡ Refused
  pub width_none : set_transfer_width 4 12 (buffered (on_port 4)) ≡ Refused
  pub on_again : in_mode 4 8 drove ≡ Did (on_port 4) (Some Float)
  pub no_mode : in_mode 4 9 drove ≡ Refused
  pub of_clock_blocks : in_mode 4 0xf drove ≡ Refused
  pub end_in_output : end_in bits_out ≡ Refused

-- ---- Programs

-- one slot of a node of this code, where the pins show this from outside
abbrev pub slot_with : List Instr → (Slot → PinView) → NodeRec → Slot → Stepped
slot_with code pins rec slot = node_step (node_of_code code) rec slot no_arrivals (pins slot)

abbrev pub after_with : List Instr → (Slot → PinView) → NodeRec → Slot → ℕ → NodeRec
after_with code pins rec slot zero = rec
after_with code pins rec slot (suc count) = after_with code pins (slot_with code pins rec slot).rec (slot + 1) count

abbrev pub events_with : List Instr → (Slot → PinView) → NodeRec → Slot → ℕ → List Event
events_with code pins rec slot zero = []
events_with code pins rec slot (suc count) =
    let after = slot_with code pins rec slot in after.emitted.events ++ events_with code pins after.rec (slot + 1) count

-- main:
--   ldw r0, dp[0]
--   setc res[r0], 8
--   ldc r1, 10
--   out res[r0], r1
--   freet
-- .data
--   .word 0x00040000
abbrev pub drives_ten : List Instr
drives_ten =
    Memory (memory.LdwDp 0 0) ∷ Resources (resources.SetcImm 0 8) ∷ Words (words.Ldc 1 10) ∷ Resources (resources.Out 0 1) ∷ Threads threads.Freet ∷ []

abbrev pub port_4a : NodeRec
port_4a = first_node 0x00040000 0x00010000 (0 ∷ 0 ∷ 4 ∷ 0 ∷ [])

-- main:
--   ldw r0, dp[0]
--   setc res[r0], 8
--   ldc r1, 1
--   setd res[r0], r1
--   setc res[r0], 0x11
--   in r2, res[r0]
--   getts r3, res[r0]
--   stw r2, dp[1]
--   stw r3, dp[2]
--   freet
-- .data
--   .word 0x00010000
abbrev pub waits_for_pin : List Instr
waits_for_pin =
    Memory (memory.LdwDp 0 0) ∷ Resources (resources.SetcImm 0 8) ∷ Words (words.Ldc 1 1) ∷ Resources (resources.Setd 0 1) ∷ Resources (resources.SetcImm 0 0x11) ∷
    Resources (resources.In 2 0) ∷ Resources (resources.Getts 3 0) ∷ Memory (memory.StwDp 2 1) ∷ Memory (memory.StwDp 3 2) ∷ Threads threads.Freet ∷ []

abbrev pub port_1a : NodeRec
port_1a = first_node 0x00040000 0x00010000 (0 ∷ 0 ∷ 1 ∷ 0 ∷ [])

-- pin 1A is high from slot 40 on
abbrev pub from_40 : Slot → PinView
from_40 slot = record { level = (if nat_lt slot 40 then 0 else 1) ∷ replicate 28 0 }

-- The rising edge in slot 40 sees the level of its own slot. By then the counter has risen in nine slots after `setc` was
-- issued in slot 4: 6, 10 and so on to 38.
pub record WorkedPortRuns : Type 0 where
  pub drives : events_with drives_ten (λ slot. low_pins) port_4a 0 20 ≡ in_slot 14 (happen.Drive 16 10) ∷ []
  pub word : load_word (after_with waits_for_pin from_40 port_1a 0 80).core.memory 0x00010004 ≡ Some 1
  pub stamp : load_word (after_with waits_for_pin from_40 port_1a 0 80).core.memory 0x00010008 ≡ Some 9
  pub no_event : events_with waits_for_pin from_40 port_1a 0 80 ≡ []
  pub ended : (thread_of (after_with waits_for_pin from_40 port_1a 0 80).core 0).run ≡ Free

pub record WorkedPorts : Type 0 where
  pub outputs : WorkedOutputs
  pub inputs : WorkedInputs
  pub turns : WorkedTurnsOfPorts
  pub runs : WorkedPortRuns
