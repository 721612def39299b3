-- What the network of a node holds, in words.
use Rattle.std.specs.Prelude.{ℕ, ◌-◌, Bool, true, false, ◌&&◌, ◌||◌, ◌==◌, nat_lt, if◌then◌else◌, Option, Some, None, List, [], ◌∷◌, ◌++◌, length, slice_get, codes, decimal}
use Rattle.xs_base.specs.Numbers.{NodeId, Position, EndNumber, InputNumber}
use Rattle.std.specs.List.{list_any}
use Rattle.xs_base.specs.declared.numbers.TheConstants.{LINK_ENDS}
use Rattle.xs_base.specs.declared.token.Token.{Token}
use Rattle.chan_ends.specs.declared.state.ChanState.{ChanState}
use Rattle.net_model.specs.Switch.{ends_packet}
use Rattle.link_ends.specs.declared.state.EndState.{EndState}
use Rattle.switch_routes.specs.declared.state.InputState.{InputState}
use Rattle.switch_routes.specs.declared.state.InputState.TheVariants as input
use Rattle.core_step.specs.declared.node_state.NodeState.{NodeState}
use Rattle.sys_plan.specs.declared.LinkPlan.{LinkPlan}
use Rattle.sys_plan.specs.declared.NodePlan.{NodePlan}
use Rattle.sys_plan.specs.Plan.{PlanRec}
use Rattle.trace_model.specs.EventLines.{hex_word}
use Rattle.trace_model.specs.Trace.{number_at, by_position}
use Rattle.look_model.specs.Resources.{chan_name}

-- ---- Link ends

-- the node, by position, and the link end at the other end of the link that a link end is in
abbrev pub other_end : List LinkPlan → Position → EndNumber → Option (Position × EndNumber)
other_end [] node end = None
other_end (link ∷ links) node end =
    if (link.a == node) && (link.a_end == end) then Some (link.b, link.b_end)
    else (if (link.b == node) && (link.b_end == end) then Some (link.a, link.a_end)
    else other_end links node end)

-- ` to nN link E`
abbrev pub to_text : List NodePlan → Option (Position × EndNumber) → List ℕ
to_text nodes None = []
to_text nodes (Some other) = codes " to n" ++ (decimal (number_at nodes other.0) ++ (codes " link " ++ decimal other.1))

-- something is at a link end: tokens wait that came by it, or tokens that it sent have no credit yet
abbrev pub has_tokens : EndState → Bool
has_tokens end = nat_lt 0 (length end.buffer.items) || nat_lt 0 end.window

-- `B tokens wait, W of 8 sent without credit`
abbrev pub end_text : EndState → List ℕ
end_text end =
    decimal (length end.buffer.items) ++ (codes " tokens wait, " ++ (decimal end.window ++ codes " of 8 sent without credit\n"))

-- `nN link E to nM link F: B tokens wait, W of 8 sent without credit`, where something is there
abbrev pub end_line : PlanRec → Position → NodePlan → EndNumber → EndState → List ℕ
end_line plan n node e end =
    if has_tokens end
    then codes "n" ++ (decimal node.number ++ (codes " link " ++ (decimal e ++ (to_text plan.nodes (other_end plan.links n e)
    ++ (codes ": " ++ end_text end)))))
    else []

-- of all link ends
abbrev pub end_lines : PlanRec → Position → NodePlan → NodeState → List ℕ
end_lines plan n node state = by_position (end_line plan n node) 0 state.ends

-- ---- Channel ends

-- `H of 8 tokens wait to be taken`
abbrev pub held_text : ℕ → List ℕ
held_text held = decimal held ++ codes " of 8 tokens wait to be taken\n"

abbrev pub holds_tokens : ChanState → Bool
holds_tokens chan = nat_lt 0 (length chan.input.items)

-- `nN channel end ID: H of 8 tokens wait to be taken`
abbrev pub chan_text : NodePlan → ℕ → ℕ → List ℕ
chan_text node c held = codes "n" ++ (decimal node.number ++ (codes " " ++ (chan_name node.id c ++ (codes ": " ++ held_text held))))

-- where some do
abbrev pub chan_line : NodePlan → ℕ → ChanState → List ℕ
chan_line node c chan = if holds_tokens chan then chan_text node c (length chan.input.items) else []

-- of all channel ends
abbrev pub chan_lines : NodePlan → NodeState → List ℕ
chan_lines node state = by_position (chan_line node) 0 state.chans

-- ---- Inputs of the switch

-- `link E`, or `channel end ID`
abbrev pub input_name : NodeId → InputNumber → List ℕ
input_name id i = if nat_lt i LINK_ENDS then codes "link " ++ decimal i else chan_name id (i - LINK_ENDS)

abbrev pub buffer_count : Option EndState → ℕ
buffer_count None = 0
buffer_count (Some end) = length end.buffer.items

-- the tokens that wait at a link end, and at a channel end to be sent
abbrev pub buffer_tokens : Option EndState → List Token
buffer_tokens None = []
buffer_tokens (Some end) = end.buffer.items

abbrev pub output_tokens : Option ChanState → List Token
output_tokens None = []
output_tokens (Some chan) = chan.output.items

-- the tokens that wait at an input
abbrev pub tokens_at : NodeState → InputNumber → List Token
tokens_at state i = if nat_lt i LINK_ENDS then buffer_tokens (slice_get state.ends i) else output_tokens (slice_get state.chans (i - LINK_ENDS))

-- `, END waits`, where END or PAUSE is among the tokens that wait, and else `, no END yet`
abbrev pub ending_text : List Token → List ℕ
ending_text tokens = if list_any ends_packet tokens then codes ", END waits" else codes ", no END yet"

-- what an input is at
abbrev pub input_text : NodeId → InputState → List ℕ
input_text id input.Idle = []
input_text id (input.Head1 first) = codes "1 of 3 header bytes came"
input_text id (input.Head2 first second) = codes "2 of 3 header bytes came"
input_text id (input.Want dest net) =
    codes "a packet to " ++ (hex_word dest ++ (codes " looks for a way on network " ++ decimal net))
input_text id (input.Local chan) = codes "a packet into " ++ chan_name id chan
input_text id (input.Out end count dest) =
    codes "a packet to " ++ (hex_word dest ++ (codes " by link " ++ decimal end))
input_text id input.Lost = codes "a lost packet"

abbrev pub is_idle : InputState → Bool
is_idle input.Idle = true
is_idle _ = false

-- `, no END yet, W tokens wait`
abbrev pub waiting_text : NodeState → InputNumber → List ℕ
waiting_text state i = ending_text (tokens_at state i) ++ (codes ", " ++ (decimal (length (tokens_at state i)) ++ codes " tokens wait\n"))

-- `nN link E: WHAT, W tokens wait`, where it is not idle
abbrev pub input_line : NodePlan → NodeState → InputNumber → InputState → List ℕ
input_line node state i now =
    if is_idle now then []
    else codes "n" ++ (decimal node.number ++ (codes " " ++ (input_name node.id i ++ (codes ": " ++ (input_text node.id now
    ++ waiting_text state i)))))

-- of all inputs
abbrev pub input_lines : NodePlan → NodeState → List ℕ
input_lines node state = by_position (input_line node state) 0 state.inputs
