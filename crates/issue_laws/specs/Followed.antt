-- What the lines of issues say that was written is all that becomes of registers and memory.
use Rattle.std.specs.Prelude.{ℕ, ◌≡◌, Option, Some, None, List}
use Rattle.xs_base.specs.Numbers.{Slot, Word}
use Rattle.xs_model.specs.declared.outside.Arrivals.{Arrivals}
use Rattle.xs_model.specs.declared.outside.PinView.{PinView}
use Rattle.xs_model.specs.Memory.{with_bytes, bytes_of_word, bytes_of_half, low_byte}
use Rattle.xs_model.specs.Record.{NodeRec}
use Rattle.step_model.specs.Fixed.{Fixed}
use Rattle.step_model.specs.Step.{node_step}
use Rattle.processor.specs.NextIssue.{next_issue}
use Rattle.core_step.specs.Told.{core_to_issue, has_trap}
use Rattle.issue_model.specs.declared.Size.{Size}
use Rattle.issue_model.specs.declared.Size.TheVariants as size
use Rattle.issue_model.specs.declared.Store.{Store}
use Rattle.issue_model.specs.Issues.{stored_in}

-- ---- A store

-- the bytes of a store, and the memory with them
abbrev pub bytes_of : Size → Word → List ℕ
bytes_of size.Byte value = low_byte value
bytes_of size.Half value = bytes_of_half value
bytes_of size.Word value = bytes_of_word value

abbrev pub with_store : List ℕ → Option Store → List ℕ
with_store memory None = memory
with_store memory (Some store) = with_bytes memory store.at (bytes_of store.size store.value)

-- ---- The laws

-- the memory after a slot is that before it, with what the line says that was stored
abbrev pub MemoryIsFollowed : Type 0
MemoryIsFollowed = (fixed : Fixed) (rec : NodeRec) (slot : Slot) (arrivals : Arrivals) (pins : PinView) →
    let after = node_step fixed rec slot arrivals pins in
    after.rec.core.memory
    ≡ with_store rec.core.memory (stored_in fixed.code rec.core.threads after.rec.core.threads (has_trap after.emitted.events) (next_issue (core_to_issue fixed rec slot arrivals pins) slot))

-- where nobody issues in a slot, no thread changes
abbrev pub RegistersAreFollowed : Type 0
RegistersAreFollowed = (fixed : Fixed) (rec : NodeRec) (slot : Slot) (arrivals : Arrivals) (pins : PinView) →
    next_issue (core_to_issue fixed rec slot arrivals pins) slot ≡ None → (node_step fixed rec slot arrivals pins).rec.core.threads ≡ rec.core.threads
