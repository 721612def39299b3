-- One call of a program: all that is said of what it reads, what it writes and how it ends.
use Rattle.std.specs.Prelude.{ℕ, ◌≡◌, ◌≢◌, ◌<◌, ◌⊎◌, Option, List, false}
use Rattle.xs_edge.specs.Edge.{HasRisen}
use Rattle.answer_model.specs.declared.Status.{Status}
use Rattle.answer_model.specs.declared.Status.TheVariants as status
use Rattle.program_calls.specs.Asked.{Asked}
use Rattle.program_calls.specs.Call.{IsWhole, IsRead, IsSilent, Answers, AnswersInPart, TookInput, IsAnswerStatus, EndsWhere, IsCalm}
use Rattle.program_calls.specs.Reads.{ReadGives, ReadsAtMost}

-- A call of which this was asked led from one state of its source and of its sink to another, and ended so. A source tells what is left, how
-- often a read has failed, and what one read may do; a sink what was written, and how often a write has failed.
pub record Calls {S K : Type 0}
    (left_in : S → Option (List ℕ)) (read_faults : S → ℕ) (read_gives : ReadGives S) (written_to : K → Option (List ℕ)) (write_faults : K → ℕ)
    (asked : Asked) (source source_after : S) (sink sink_after : K) (ended : Status)
    : Type 0 where
  -- What is written and what is read.
  pub answered : IsWhole ended → Answers asked (left_in source) (written_to sink) (written_to sink_after) ended
  pub part : ended ≡ status.WriteFault → AnswersInPart asked (left_in source) (written_to sink) (written_to sink_after)
  pub silent : IsSilent ended → sink_after ≡ sink
  pub left : IsRead ended → TookInput asked (left_in source) (left_in source_after)
  pub reads : ReadsAtMost read_gives asked.most_reads source source_after
  -- Where reads and writes fail.
  pub read_fault : ended ≡ status.ReadFault → HasRisen (read_faults source) (read_faults source_after)
  pub read_fault_shown : read_faults source < read_faults source_after → ended ≡ status.ReadFault
  pub write_fault : ended ≡ status.WriteFault → HasRisen (write_faults sink) (write_faults sink_after)
  pub write_fault_shown : write_faults sink < write_faults sink_after → ended ≡ status.WriteFault
  -- When each of the other statuses comes.
  pub usage : ended ≡ status.Usage → asked.no_form
  pub usage_given : asked.no_form → (ended ≡ status.Usage) ⊎ (ended ≡ status.WriteFault)
  pub reads_nothing : asked.asks ≡ false → source_after ≡ source
  pub system_fault : ended ≡ status.SystemFault → IsAnswerStatus status.SystemFault asked (left_in source)
  pub system_fault_given : IsWhole ended → EndsWhere status.SystemFault asked (left_in source) ended
  pub source_fault : ended ≡ status.SourceFault → IsAnswerStatus status.SourceFault asked (left_in source)
  pub source_fault_given : IsWhole ended → EndsWhere status.SourceFault asked (left_in source) ended
  pub script_fault : ended ≡ status.ScriptFault → IsAnswerStatus status.ScriptFault asked (left_in source)
  pub script_fault_given : IsWhole ended → EndsWhere status.ScriptFault asked (left_in source) ended
  pub done : ended ≡ status.Done → IsAnswerStatus status.Done asked (left_in source)
  pub done_given : ended ≢ status.Memory → IsCalm (read_faults source) (read_faults source_after) → IsCalm (write_faults sink) (write_faults sink_after)
      → EndsWhere status.Done asked (left_in source) ended
