-- Texts and orders worked out by hand.
use Rattle.std.specs.Prelude.{ℕ, ◌≡◌, List, [], ◌∷◌, ◌++◌, codes}
use Rattle.xs_model.specs.declared.event.Event.{Event}
use Rattle.xs_model.specs.declared.event.Happen.TheVariants as happen
use Rattle.xs_model.specs.Outside.{in_slot}
use Rattle.sys_plan.specs.Plan.{PlanRec}
use Rattle.worked_runs.specs.Systems.{talking_pair, lost_pair, plain_node}
use Rattle.trace_model.specs.EventOrder.{Placed, merged}
use Rattle.trace_model.specs.Trace.{more_line, trace_text}

-- the lines of the pair system after those of its events
abbrev pub pair_counts : List ℕ
pair_counts = codes "link 0:0>1:0 tokens 4 credits 0\nlink 1:0>0:0 tokens 0 credits 4\nn0 mem 0x00010000 0x00010002\nend 40\n"

-- two nodes without code, whose memories begin with 1 and with 2
abbrev pub both_halt : PlanRec
both_halt = record { nodes = plain_node 3 [] (1 ∷ []) ∷ plain_node 7 [] (2 ∷ []) ∷ []; links = []; script = []; steps = []; wires = [] }

pub record WorkedTraces : Type 0 where
  pub delivered : trace_text talking_pair 40 ≡ codes "30 n1 chan 0 ct 1\n" ++ pair_counts
  -- 30 slots end before END is delivered, and before the last credit
  pub cut : trace_text talking_pair 30
      ≡ codes "link 0:0>1:0 tokens 4 credits 0\nlink 1:0>0:0 tokens 0 credits 3\nn0 mem 0x00010000 0x00010002\nend 30\n"
  pub lost : trace_text lost_pair 40 ≡ codes "27 n1 lost 0x00010002\n" ++ pair_counts
  -- the events and the halted threads of both nodes stand before the memories of both
  pub halted : trace_text both_halt 1
      ≡ codes "0 n3.t0 trap 2 pc 0x00040000 data 0x00040000\n0 n3.t0 halt\n0 n7.t0 trap 2 pc 0x00040000 data 0x00040000\n0 n7.t0 halt\n"
      ++ codes "n3.t0 halted\nn7.t0 halted\nn3 mem 0x00010000 0x00000001\nn7 mem 0x00010000 0x00000002\nend 1\n"

-- a thread of a node halts in a slot
abbrev pub halts_in : ℕ → Event
halts_in slot = in_slot slot (happen.Halt 0)

abbrev pub told : ℕ → ℕ → Placed
told k slot = (k, halts_in slot)

pub record WorkedEventOrder : Type 0 where
  -- by slot; within slots 5 and 9 the events of the node that stands first come first
  pub in_order : merged ((halts_in 5 ∷ halts_in 5 ∷ halts_in 9 ∷ []) ∷ (halts_in 3 ∷ halts_in 5 ∷ halts_in 9 ∷ halts_in 12 ∷ []) ∷ [])
      ≡ told 1 3 ∷ told 0 5 ∷ told 0 5 ∷ told 1 5 ∷ told 0 9 ∷ told 1 9 ∷ told 1 12 ∷ []
  -- of three nodes one has no events
  pub of_three : merged ((halts_in 9 ∷ []) ∷ [] ∷ (halts_in 4 ∷ halts_in 9 ∷ []) ∷ []) ≡ told 2 4 ∷ told 0 9 ∷ told 2 9 ∷ []
  pub some_left_out : more_line 3 2 ≡ codes "n3 more 2\n"
  pub none_left_out : more_line 3 0 ≡ []
