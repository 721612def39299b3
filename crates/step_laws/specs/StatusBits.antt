-- Which bits the status registers have.
use Rattle.std.specs.Prelude.{ℕ, List, slice_index_or}
use Rattle.xs_base.specs.Numbers.{Slot, Word, ThreadNumber}
use Rattle.xs_model.specs.declared.thread.Thread.{Thread}
use Rattle.xs_model.specs.declared.outside.Arrivals.{Arrivals}
use Rattle.xs_model.specs.declared.outside.PinView.{PinView}
use Rattle.xs_model.specs.Threads.{fresh_thread, HasKnownBits}
use Rattle.xs_model.specs.Record.{CoreRec, NodeRec, first_core}
use Rattle.xs_instructions.specs.declared.instr.Instr.{Instr}
use Rattle.step_model.specs.Fixed.{Fixed}
use Rattle.step_model.specs.Effect.{Setting}
use Rattle.step_model.specs.Step.{issued, node_step}

-- the status registers of every thread of a core have the seven bits and no others
abbrev pub AllKnown : List Thread → Type 0
AllKnown threads = (k : ThreadNumber) → HasKnownBits (slice_index_or threads k fresh_thread)

abbrev pub FirstIsKnown : Type 0
FirstIsKnown = (entry cp_at : Word) (memory : List ℕ) → AllKnown (first_core entry cp_at memory).threads

abbrev pub IssueStaysKnown : Type 0
IssueStaysKnown = (code : List Instr) (here : Setting) (core : CoreRec) →
    AllKnown core.threads → AllKnown (issued code here core).core.threads

abbrev pub SlotStaysKnown : Type 0
SlotStaysKnown = (fixed : Fixed) (rec : NodeRec) (slot : Slot) (arrivals : Arrivals) (pins : PinView) →
    AllKnown rec.core.threads → AllKnown (node_step fixed rec slot arrivals pins).rec.core.threads
