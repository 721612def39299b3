-- What `watch SLOTS ADDRESS ..` writes: a line for each store to one of some words.
use Rattle.std.specs.Prelude.{ℕ, ◌*◌, ◌/◌, Bool, ◌==◌, if◌then◌else◌, Option, Some, None, List, [], ◌∷◌, ◌++◌, slice_index_or, codes}
use Rattle.std.specs.List.{list_any}
use Rattle.xs_base.specs.Numbers.{Slot, Word, Position, ThreadNumber}
use Rattle.xs_model.specs.Memory.{load_word}
use Rattle.xs_model.specs.Record.{CoreRec}
use Rattle.sys_plan.specs.declared.NodePlan.{NodePlan}
use Rattle.sys_plan.specs.Plan.{PlanRec}
use Rattle.processor.specs.declared.picks.NextIssue.{NextIssue}
use Rattle.trace_model.specs.EventLines.{hex_word}
use Rattle.issue_model.specs.declared.Store.{Store}
use Rattle.issue_model.specs.Seen.{seen_at}
use Rattle.issue_model.specs.Issues.{thread_in, stored_in, store_text, start_text, nodes_lines, lines_from, lines_text}

-- the address of the word in which an address lies
abbrev pub word_around : Word → Word
word_around at = 4 * (at / 4)

-- whether one of these addresses lies in the word in which an address lies
abbrev pub is_watched : List Word → Word → Bool
is_watched addresses at = list_any (λ (a : Word). (a / 4) == (at / 4)) addresses

abbrev pub or_0 : Option Word → Word
or_0 None = 0
or_0 (Some w) = w

-- the word of a memory in which an address lies, and 0 outside the memory
abbrev pub value_around : List ℕ → Word → Word
value_around memory at = or_0 (load_word memory (word_around at))

-- `; word W was OLD, is NEW`
abbrev pub change_text : Word → Word → Word → List ℕ
change_text at before after = codes "; word " ++ (hex_word at ++ (codes " was " ++ (hex_word before ++ (codes ", is " ++ hex_word after))))

-- the line of a store by a thread, where the word was this before the slot and is that after it
abbrev pub watch_line : NodePlan → List ℕ → Slot → ThreadNumber → Word → Store → Word → Word → List ℕ
watch_line node lines slot k pc store before after =
    start_text node lines slot k pc ++ (store_text (Some store) ++ (change_text (word_around store.at) before after ++ codes "\n"))

-- where something is stored, and that is watched; by the memories before the slot and after it
abbrev pub watched_lines : List Word → NodePlan → List ℕ → Slot → ThreadNumber → Word → List ℕ → List ℕ → Option Store → List (List ℕ)
watched_lines addresses node lines slot k pc before after None = []
watched_lines addresses node lines slot k pc before after (Some store) =
    if is_watched addresses store.at
    then watch_line node lines slot k pc store (value_around before store.at) (value_around after store.at) ∷ []
    else []

-- of a slot of a node
abbrev pub watch_by : List Word → NodePlan → List ℕ → Slot → CoreRec → CoreRec → Bool → Option NextIssue → List (List ℕ)
watch_by addresses node lines slot before after traps None = []
watch_by addresses node lines slot before after traps (Some next) =
    watched_lines addresses node lines slot next.thread (thread_in before.threads next.thread).pc before.memory after.memory
    (stored_in node.image.code before.threads after.threads traps (Some next))

-- of a node of a plan, at a position, in a slot of the serial machine
abbrev pub node_watched : PlanRec → List (List ℕ) → List Word → Slot → Position → NodePlan → List (List ℕ)
node_watched plan lines addresses slot n node =
    let seen = seen_at plan slot n node in
    watch_by addresses node (slice_index_or lines n []) slot seen.before.core seen.after.core seen.traps seen.issue

-- of a slot
abbrev pub slot_watched : PlanRec → List (List ℕ) → List Word → Slot → List (List ℕ)
slot_watched plan lines addresses slot = nodes_lines (node_watched plan lines addresses slot) 0 plan.nodes

-- of a run of so many slots by a plan, where the instructions of each node are of these lines
abbrev pub watch_of : PlanRec → List (List ℕ) → ℕ → List Word → List ℕ
watch_of plan lines slots addresses = lines_text slots (lines_from (slot_watched plan lines addresses) 0 slots)
