-- What is kept of words that are watched.
use Rattle.std.specs.Prelude.{ℕ, ◌≡◌, ◌<◌, List, length, map, slice_index_or, Vec}
use Rattle.std.specs.Global.{Global}
use Rattle.xs_base.specs.Numbers.{Slot, Position}
use Rattle.xs_base.specs.Numbers as numbers
use Rattle.sys_plan.specs.Plan.{PlanRec}
use Rattle.issue_model.specs.Seen.{node_after}
use Rattle.issue_model.specs.Watch.{value_around}
use Rattle.issue_text.specs.declared.words.Word.{Word}

-- of the word of a memory in which an address lies
abbrev pub word_of : List ℕ → numbers.Word → Word
word_of memory at = record { at = at; was = value_around memory at }

-- of each node of a plan before a slot, by position
abbrev pub AreKept : PlanRec → Slot → List numbers.Word → List (Vec Word Global) → Type 0
AreKept plan slot addresses words =
    (n : Position) (none : Vec Word Global) → n < length plan.nodes
    → (slice_index_or words n none).items ≡ map (word_of (node_after plan slot n).core.memory) addresses
