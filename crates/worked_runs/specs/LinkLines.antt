-- The lines of links, and nodes whose numbers and link ends differ, worked out by hand.
use Rattle.std.specs.Prelude.{◌≡◌, List, [], ◌∷◌, ◌++◌, codes, replicate}
use Rattle.xs_base.specs.declared.entry.Entry.{Entry}
use Rattle.xs_base.specs.declared.entry.What.TheVariants as what
use Rattle.xs_base.specs.declared.token.Token.TheVariants.{Ctrl}
use Rattle.xs_instructions.specs.declared.instr.Instr.TheVariants.{Words, Memory, Flow, Threads, Resources}
use Rattle.xs_instructions.specs.declared.instr.WordIns.TheVariants as words
use Rattle.xs_instructions.specs.declared.instr.MemIns.TheVariants as memory
use Rattle.xs_instructions.specs.declared.instr.FlowIns.TheVariants as flow
use Rattle.xs_instructions.specs.declared.instr.ThreadIns.TheVariants as threads
use Rattle.xs_instructions.specs.declared.instr.ResIns.TheVariants as resources
use Rattle.sys_plan.specs.declared.NodePlan.{NodePlan}
use Rattle.sys_plan.specs.Plan.{PlanRec}
use Rattle.worked_runs.specs.Systems.{plain_node, line_of_three}
use Rattle.trace_model.specs.Trace.{sent_in, traffic_line, trace_text}

-- a token and two credits, the last of which is not yet there at the end
abbrev pub three_entries : List Entry
three_entries =
    record { slot = 4; what = what.Token (Ctrl 1) } ∷ record { slot = 4; what = what.Credit } ∷ record { slot = 9; what = what.Credit } ∷ []

-- node 3 executes one instruction, and node 7 none; link end 2 of node 7 is joined to link end 6 of node 3
abbrev pub three_and_seven : PlanRec
three_and_seven = record {
  nodes = plain_node 3 (Words words.Nop ∷ []) (1 ∷ 0 ∷ 0 ∷ 0 ∷ 2 ∷ []) ∷ plain_node 7 [] (3 ∷ []) ∷ [];
  links = record { a = 1; a_end = 2; b = 0; b_end = 6; delay = 5; gap = 4; net = 0 } ∷ [];
  script = [];
  steps = [];
  wires = [];
}

-- node 0 sends one byte after the other to channel end 0 of node 1, from which none is taken
abbrev pub flooding_node : NodePlan
flooding_node = record (plain_node 0 (
    Resources (resources.Getr 0 2) ∷ Memory (memory.LdwDp 1 0) ∷ Resources (resources.Setd 0 1) ∷ Words (words.Ldc 2 7)
    ∷ Resources (resources.Outt 0 2) ∷ Flow (flow.Bu 4) ∷ []
    ) (2 ∷ 0 ∷ 1 ∷ 0 ∷ [])) { ways = 1 ∷ replicate 15 0 }

abbrev pub flooded_pair : PlanRec
flooded_pair = record {
  nodes = flooding_node ∷ plain_node 1 (Resources (resources.Getr 0 2) ∷ Threads threads.Freet ∷ []) [] ∷ [];
  links = record { a = 0; a_end = 0; b = 1; b_end = 0; delay = 5; gap = 4; net = 0 } ∷ [];
  script = [];
  steps = [];
  wires = [];
}

pub record WorkedLinks : Type 0 where
  pub link : traffic_line 7 2 3 6 (sent_in three_entries) ≡ codes "link 7:2>3:6 tokens 1 credits 2\n"
  -- the event of the node that stands second comes first, since its slot is earlier
  pub two_nodes : trace_text three_and_seven 5 ≡
      codes "0 n7.t0 trap 2 pc 0x00040000 data 0x00040000\n0 n7.t0 halt\n4 n3.t0 trap 2 pc 0x00040004 data 0x00040004\n"
      ++ codes "4 n3.t0 halt\nlink 7:2>3:6 tokens 0 credits 0\nlink 3:6>7:2 tokens 0 credits 0\nn3.t0 halted\nn7.t0 halted\n"
      ++ codes "n3 mem 0x00010000 0x00000001\nn3 mem 0x00010004 0x00000002\nn7 mem 0x00010000 0x00000003\nend 5\n"
  pub no_slots : trace_text three_and_seven 0 ≡
      codes "link 7:2>3:6 tokens 0 credits 0\nlink 3:6>7:2 tokens 0 credits 0\nn3 mem 0x00010000 0x00000001\n"
      ++ codes "n3 mem 0x00010004 0x00000002\nn7 mem 0x00010000 0x00000003\nend 0\n"
  -- a packet over two links, and one of the node between
  pub three_nodes : trace_text line_of_three 70 ≡
      codes "44 n2 chan 0 ct 1\nlink 0:0>1:0 tokens 4 credits 0\nlink 1:0>0:0 tokens 0 credits 4\n"
      ++ codes "link 1:1>2:0 tokens 8 credits 0\nlink 2:0>1:1 tokens 0 credits 8\nn0 mem 0x00010000 0x00030002\n"
      ++ codes "n1 mem 0x00010000 0x00030102\nend 70\n"
  -- 8 bytes are delivered, and 8 wait in the link end's buffer, whose credits do not come
  pub flooded : trace_text flooded_pair 300 ≡
      codes "34 n1 chan 0 dt 7\n38 n1 chan 0 dt 7\n42 n1 chan 0 dt 7\n46 n1 chan 0 dt 7\n54 n1 chan 0 dt 7\n"
      ++ codes "62 n1 chan 0 dt 7\n70 n1 chan 0 dt 7\n78 n1 chan 0 dt 7\nlink 0:0>1:0 tokens 19 credits 0\n"
      ++ codes "link 1:0>0:0 tokens 0 credits 11\nn0 mem 0x00010000 0x00010002\nend 300\n"
