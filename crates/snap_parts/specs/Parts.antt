-- What contracts see of a snapshot's parts.
use Rattle.std.specs.Prelude.{ℕ, List, map}
use Rattle.xs_base.specs.Numbers.{Slot, Word}
use Rattle.xs_base.specs.declared.entry.Entry.{Entry}
use Rattle.snap_parts.specs.declared.log.SnapLog.{SnapLog}
use Rattle.snap_parts.specs.declared.node.SnapNode.{SnapNode}
use Rattle.snap_parts.specs.declared.system.SnapSystem.{SnapSystem}

-- Of a directed link or a wire: what is in flight, in order; how many tokens, or levels of a wire, and how many credits were sent since slot 0;
-- and the level that has arrived, which is 0 for a link.
pub record LogRec : Type 0 where
  pub entries : List Entry
  pub tokens : ℕ
  pub credits : ℕ
  pub level : Word

abbrev pub seen : SnapLog → LogRec
seen log = record { entries = log.entries.entries; tokens = log.totals.0; credits = log.totals.1; level = log.level }

-- of a system: before which slot, the nodes by position, and the directed links and wires by number
pub record BodyRec : Type 0 where
  pub slot : Slot
  pub nodes : List SnapNode
  pub logs : List LogRec

abbrev pub body_of : SnapSystem → BodyRec
body_of snap = record { slot = snap.slot; nodes = snap.nodes.items; logs = map seen snap.logs.items }
