-- Systems worked out by hand.
use Rattle.std.specs.Prelude.{ℕ, ◌≡◌, true, false, Some, None, ◌∷◌, List, [], get_or, map, replicate}
use Rattle.xs_base.specs.declared.token.Token.{Token}
use Rattle.xs_base.specs.declared.token.Token.TheVariants.{Byte, Ctrl}
use Rattle.xs_base.specs.declared.entry.Entry.{Entry}
use Rattle.xs_base.specs.declared.entry.What.TheVariants as what
use Rattle.xs_model.specs.declared.event.Happen.TheVariants as happen
use Rattle.xs_model.specs.Record.{NodeRec, thread_of}
use Rattle.xs_model.specs.Outside.{Emitted, in_slot}
use Rattle.xs_instructions.specs.declared.instr.Instr.{Instr}
use Rattle.xs_instructions.specs.declared.instr.Instr.TheVariants.{Words, Memory, Threads, Resources}
use Rattle.xs_instructions.specs.declared.instr.WordIns.TheVariants as words
use Rattle.xs_instructions.specs.declared.instr.MemIns.TheVariants as memory
use Rattle.xs_instructions.specs.declared.instr.ThreadIns.TheVariants as threads
use Rattle.xs_instructions.specs.declared.instr.ResIns.TheVariants as resources
use Rattle.sys_plan.specs.declared.NodePlan.{NodePlan}
use Rattle.sys_plan.specs.NodePlans.{plain_plan}
use Rattle.sys_plan.specs.Plan.{PlanRec}
use Rattle.serial_model.specs.Serial.{SystemRec, pins_at, sent_by, serial, history}

-- a node whose number is its id, with this code and these bytes of data, that knows no way
abbrev pub plain_node : ℕ → List Instr → List ℕ → NodePlan
plain_node id code bytes =
    plain_plan id id (record { code = code; bytes = bytes; cp_at = 0x00010000; symbols = [] }) (replicate 16 0)

-- the pc of each node's thread 0
abbrev pub pcs : SystemRec → List ℕ
pcs system = map (λ (rec : NodeRec). (thread_of rec.core 0).pc) system.nodes

-- two nodes: one executes two instructions, and one has no code
abbrev pub two_alone : PlanRec
two_alone = record {
  nodes = plain_node 0 (Words (words.Ldc 3 5) ∷ Threads threads.Freet ∷ []) [] ∷ plain_node 1 [] [] ∷ [];
  links = [];
  script = [];
  steps = [];
  wires = [];
}

-- the same two with a link, by which nothing is sent
abbrev pub two_joined : PlanRec
two_joined = record {
  nodes = two_alone.nodes;
  links = record { a = 1; a_end = 2; b = 0; b_end = 7; delay = 5; gap = 4; net = 0 } ∷ [];
  script = [];
  steps = [];
  wires = [];
}

-- Node 0 issues in slots 0 and 4 and is done; node 1 traps in slot 0, and its thread halts where its trap led.
pub record SmallSystems : Type 0 where
  pub apart_events : (serial two_alone 6).events ≡ [] ∷ (in_slot 0 (happen.Trap 0 2 0x00040000 0x00040000) ∷ in_slot 0 (happen.Halt 0) ∷ []) ∷ []
  pub apart_histories : (serial two_alone 6).histories ≡ []
  pub apart_after_4 : pcs (serial two_alone 4) ≡ 0x00040004 ∷ 0 ∷ []
  pub apart_after_5 : pcs (serial two_alone 5) ≡ 0x00040008 ∷ 0 ∷ []
  pub joined_histories : (serial two_joined 6).histories ≡ [] ∷ [] ∷ []

-- Node 0 sends END to channel end 0 of node 1 by a link with a delay of 5 and a gap of 4, and node 1 waits for it.
abbrev pub sending_node : NodePlan
sending_node = record (plain_node 0 (
    Resources (resources.Getr 0 2) ∷ Memory (memory.LdwDp 1 0) ∷ Resources (resources.Setd 0 1) ∷ Resources (resources.OutctImm 0 1)
    ∷ Threads threads.Freet ∷ []
    ) (2 ∷ 0 ∷ 1 ∷ 0 ∷ [])) { ways = 1 ∷ replicate 15 0 }

abbrev pub receiving_node : NodePlan
receiving_node = record (plain_node 1 (
    Resources (resources.Getr 0 2) ∷ Resources (resources.ChkctImm 0 1) ∷ Threads threads.Freet ∷ []
    ) []) { ways = 1 ∷ replicate 15 0 }

abbrev pub talking_pair : PlanRec
talking_pair = record {
  nodes = sending_node ∷ receiving_node ∷ [];
  links = record { a = 0; a_end = 0; b = 1; b_end = 0; delay = 5; gap = 4; net = 0 } ∷ [];
  script = [];
  steps = [];
  wires = [];
}

abbrev pub token_sent : ℕ → Token → Entry
token_sent slot t = record { slot = slot; what = what.Token t }

abbrev pub credit_sent : ℕ → Entry
credit_sent slot = record { slot = slot; what = what.Credit }

-- The output happens in slot 12. The header bytes leave a gap apart and then END; each is taken on arrival, for which
-- a credit goes back, and END is delivered in slot 30. The thread that waited issues in that slot.
pub record PairAtWork : Type 0 where
  pub nothing_sent : (serial talking_pair 13).histories ≡ [] ∷ [] ∷ []
  pub before_arrival : (serial talking_pair 18).histories ≡ (token_sent 13 (Byte 0) ∷ token_sent 17 (Byte 1) ∷ []) ∷ [] ∷ []
  pub first_credit : (serial talking_pair 19).histories ≡ (token_sent 13 (Byte 0) ∷ token_sent 17 (Byte 1) ∷ []) ∷ (credit_sent 18 ∷ []) ∷ []
  pub histories : (serial talking_pair 60).histories
      ≡ (token_sent 13 (Byte 0) ∷ token_sent 17 (Byte 1) ∷ token_sent 21 (Byte 0) ∷ token_sent 25 (Ctrl 1) ∷ [])
      ∷ (credit_sent 18 ∷ credit_sent 22 ∷ credit_sent 26 ∷ credit_sent 30 ∷ [])
      ∷ []
  -- slot 13 is the first of these, and slot 25 is none of them
  pub first_slots : history talking_pair 0 13 25 ≡ token_sent 13 (Byte 0) ∷ token_sent 17 (Byte 1) ∷ token_sent 21 (Byte 0) ∷ []
  pub later_slots : history talking_pair 0 14 26 ≡ token_sent 17 (Byte 1) ∷ token_sent 21 (Byte 0) ∷ token_sent 25 (Ctrl 1) ∷ []
  pub way_back : history talking_pair 1 0 19 ≡ credit_sent 18 ∷ []
  pub not_delivered : (serial talking_pair 30).events ≡ [] ∷ [] ∷ []
  pub events : (serial talking_pair 60).events ≡ [] ∷ (in_slot 30 (happen.Chan 0 (Ctrl 1)) ∷ []) ∷ []
  pub waits : pcs (serial talking_pair 30) ≡ 0x00040014 ∷ 0x00040004 ∷ []
  pub goes_on : pcs (serial talking_pair 31) ≡ 0x00040014 ∷ 0x00040008 ∷ []

-- the byte 1 and a credit leave by link end 0
abbrev pub both_sent : Emitted
both_sent = record { events = []; tokens = Some (Byte 1) ∷ replicate 7 None; credits = true ∷ replicate 7 false }

pub record SentInOrder : Type 0 where
  -- the token stands before the credit of its slot, and nothing leaves by the next link end
  pub token_first : sent_by 5 both_sent 0 ≡ token_sent 5 (Byte 1) ∷ credit_sent 5 ∷ []
  pub other_end : sent_by 5 both_sent 1 ≡ []

-- the pair where node 1 has no channel end in use
abbrev pub lone_receiver : NodePlan
lone_receiver = record (plain_node 1 (Threads threads.Freet ∷ []) []) { ways = 1 ∷ replicate 15 0 }

abbrev pub lost_pair : PlanRec
lost_pair = record talking_pair { nodes = sending_node ∷ lone_receiver ∷ [] }

-- The destination is whole in slot 26. The packet is lost in the slot after it, and its END is dropped on arrival, with
-- its credit.
pub record LostPacket : Type 0 where
  pub events : (serial lost_pair 40).events ≡ [] ∷ (in_slot 27 (happen.Lost 0x00010002) ∷ []) ∷ []
  pub not_yet : (serial lost_pair 27).events ≡ [] ∷ [] ∷ []
  pub histories : (serial lost_pair 40).histories
      ≡ (token_sent 13 (Byte 0) ∷ token_sent 17 (Byte 1) ∷ token_sent 21 (Byte 0) ∷ token_sent 25 (Ctrl 1) ∷ [])
      ∷ (credit_sent 18 ∷ credit_sent 22 ∷ credit_sent 26 ∷ credit_sent 30 ∷ [])
      ∷ []

-- Three nodes with the ids 0, 1 and 3 in a line, by two links with a delay of 5 and a gap of 4: node 0 sends END to channel end 0
-- of the last one, over the node between, which sends PAUSE to the last one's channel end 1.
abbrev pub line_end : NodePlan
line_end = record (plain_node 0 (
    Resources (resources.Getr 0 2) ∷ Memory (memory.LdwDp 1 0) ∷ Resources (resources.Setd 0 1) ∷ Resources (resources.OutctImm 0 1)
    ∷ Threads threads.Freet ∷ []
    ) (2 ∷ 0 ∷ 3 ∷ 0 ∷ [])) { ways = 0 ∷ 1 ∷ replicate 14 0 }

abbrev pub line_middle : NodePlan
line_middle = record (plain_node 1 (
    Resources (resources.Getr 0 2) ∷ Memory (memory.LdwDp 1 0) ∷ Resources (resources.Setd 0 1)
    ∷ Words words.Nop ∷ Words words.Nop ∷ Words words.Nop ∷ Words words.Nop ∷ Resources (resources.OutctImm 0 2)
    ∷ Threads threads.Freet ∷ []
    ) (2 ∷ 1 ∷ 3 ∷ 0 ∷ [])) { ways = 0 ∷ 2 ∷ replicate 14 0 }

abbrev pub line_other_end : NodePlan
line_other_end =
    record (plain_node 3 (Resources (resources.Getr 0 2) ∷ Resources (resources.Getr 1 2) ∷ Threads threads.Freet ∷ []) []) { number = 2 }

abbrev pub line_of_three : PlanRec
line_of_three = record {
  nodes = line_end ∷ line_middle ∷ line_other_end ∷ [];
  links = record { a = 0; a_end = 0; b = 1; b_end = 0; delay = 5; gap = 4; net = 0 } ∷ record { a = 1; a_end = 1; b = 2; b_end = 0; delay = 5; gap = 4; net = 0 } ∷ [];
  script = [];
  steps = [];
  wires = [];
}

-- The node between passes the packet on from slot 27 to slot 39. Its own waits from slot 29 on and goes out from slot 43 to slot
-- 55; its PAUSE is not delivered.
pub record PacketOnItsWay : Type 0 where
  pub histories : (serial line_of_three 70).histories
      ≡ (token_sent 13 (Byte 0) ∷ token_sent 17 (Byte 3) ∷ token_sent 21 (Byte 0) ∷ token_sent 25 (Ctrl 1) ∷ [])
      ∷ (credit_sent 18 ∷ credit_sent 22 ∷ credit_sent 26 ∷ credit_sent 39 ∷ [])
      ∷ (token_sent 27 (Byte 0) ∷ token_sent 31 (Byte 3) ∷ token_sent 35 (Byte 0) ∷ token_sent 39 (Ctrl 1)
      ∷ token_sent 43 (Byte 0) ∷ token_sent 47 (Byte 3) ∷ token_sent 51 (Byte 1) ∷ token_sent 55 (Ctrl 2) ∷ [])
      ∷ (credit_sent 32 ∷ credit_sent 36 ∷ credit_sent 40 ∷ credit_sent 44 ∷ credit_sent 48 ∷ credit_sent 52 ∷ credit_sent 56 ∷ credit_sent 60 ∷ [])
      ∷ []
  pub events : (serial line_of_three 70).events ≡ [] ∷ [] ∷ (in_slot 44 (happen.Chan 0 (Ctrl 1)) ∷ []) ∷ []
  -- before the packet's END came to the node between, its header is already at the last one
  pub not_delivered : (serial line_of_three 44).events ≡ [] ∷ [] ∷ [] ∷ []

-- Two nodes with the numbers 3 and 7. The script names the second one by its number.
abbrev pub driven_pair : PlanRec
driven_pair = record {
  nodes = plain_node 3 [] [] ∷ plain_node 7 [] [] ∷ [];
  links = [];
  script = record { slot = 5; node = 7; port = 16; value = 9 } ∷ [];
  steps = [];
  wires = [];
}

-- Port 16 shows the value from the line's own slot on, at the second node alone.
pub record DrivenPins : Type 0 where
  pub before : get_or (pins_at driven_pair [] 1 4).level 16 77 ≡ 0
  pub at : get_or (pins_at driven_pair [] 1 5).level 16 77 ≡ 9
  pub next_port : get_or (pins_at driven_pair [] 1 5).level 17 77 ≡ 0
  pub first_node : get_or (pins_at driven_pair [] 0 5).level 16 77 ≡ 0
