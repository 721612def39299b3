-- How many bytes a snapshot has.
use Rattle.std.specs.Prelude.{ℕ, ◌+◌, ◌*◌, length, sum_by}
use Rattle.sys_plan.specs.Plan.{PlanRec}
use Rattle.chan_ends.specs.declared.state.ChanState.{ChanState}
use Rattle.link_ends.specs.declared.state.EndState.{EndState}
use Rattle.snap_parts.specs.declared.node.SnapNode.{SnapNode}
use Rattle.snap_parts.specs.Parts.{LogRec, BodyRec}
use Rattle.snap_codec.specs.Snaps.{SnapRec}

-- the tokens in both buffers of a channel end, and in that of a link end
abbrev pub tokens_at_chan : ChanState → ℕ
tokens_at_chan chan = length chan.output.items + length chan.input.items

abbrev pub tokens_at_end : EndState → ℕ
tokens_at_end end = length end.buffer.items

-- in all buffers of a node
abbrev pub tokens_of_node : SnapNode → ℕ
tokens_of_node node = sum_by tokens_at_chan node.state.chans + sum_by tokens_at_end node.state.ends

-- in all buffers of all nodes
abbrev pub tokens_of : BodyRec → ℕ
tokens_of body = sum_by tokens_of_node body.nodes

-- how much is in flight on a directed link or a wire, and on all of them
abbrev pub entries_of_log : LogRec → ℕ
entries_of_log log = length log.entries

abbrev pub entries_of : BodyRec → ℕ
entries_of body = sum_by entries_of_log body.logs

-- two directed links for each link, and the wires
abbrev pub blocks_of : PlanRec → ℕ
blocks_of plan = 2 * length plan.links + length plan.wires

-- the bytes of a snapshot of a plan
abbrev pub snap_size : PlanRec → SnapRec → ℕ
snap_size plan snap =
    23 + length snap.text + 69303 * length plan.nodes + 2 * tokens_of snap.body + 24 * blocks_of plan + 9 * entries_of snap.body

-- With the longest text, 16 nodes, 48 links and 32 wires, all buffers full, and as much in flight as there may be: on a wire of the longest
-- delay a level in each of 1,000 slots, and on both directed links of a link 16 tokens and credits, by its windows
abbrev pub most_bytes : ℕ
most_bytes = 5619591
