-- A switch at which nothing waits.
use Rattle.std.specs.Prelude.{ℕ, ◌≡◌, List, Option, None, replicate}
use Rattle.xs_base.specs.Numbers.{Slot}
use Rattle.xs_model.specs.declared.thread.Thread.{Thread}
use Rattle.xs_model.specs.Record.{NodeRec, core_with, node_with}
use Rattle.xs_model.specs.AtWork.{slot_begins}
use Rattle.net_model.specs.Switch.{Routes, moves}

-- a node with no link ends and no channel end in use
abbrev pub quiet_node : List Thread → List (Option Slot) → List ℕ → NodeRec
quiet_node threads last memory = node_with (core_with threads last memory) (replicate 8 None)

abbrev pub QuietSwitch : Type 0
QuietSwitch = (routes : Routes) (slot : Slot) (threads : List Thread) (last : List (Option Slot)) (memory : List ℕ) →
    moves routes slot (slot_begins (quiet_node threads last memory)) ≡ slot_begins (quiet_node threads last memory)
