-- What a program's call does to its source and its sink, and the status that it ends with.
use Rattle.std.specs.Prelude.{ℕ, ◌≡◌, ◌⊎◌, Option, Some, None, IfSome, List, drop}
use Rattle.std.specs.Io.KnownBytes.{Appends}
use Rattle.xs_edge.specs.Edge.{HasRisen, AppendsPart}
use Rattle.answer_model.specs.declared.Status.{Status}
use Rattle.answer_model.specs.declared.Status.TheVariants.{Done, Memory, Usage, SystemFault, SourceFault, ScriptFault, ReadFault, WriteFault}
use Rattle.program_calls.specs.Asked.{Asked, taken}

-- Memory was there, the input was read and the text was written: a status of the definition's answers.
abbrev pub IsWhole : Status → Type 0
IsWhole Done = Unit {0}
IsWhole Memory = ⊥
IsWhole Usage = Unit {0}
IsWhole SystemFault = Unit {0}
IsWhole SourceFault = Unit {0}
IsWhole ScriptFault = Unit {0}
IsWhole ReadFault = ⊥
IsWhole WriteFault = ⊥

-- memory was there and the input was read, if it was asked for
abbrev pub IsRead : Status → Type 0
IsRead Done = Unit {0}
IsRead Memory = ⊥
IsRead Usage = Unit {0}
IsRead SystemFault = Unit {0}
IsRead SourceFault = Unit {0}
IsRead ScriptFault = Unit {0}
IsRead ReadFault = ⊥
IsRead WriteFault = Unit {0}

-- nothing was to be written: memory was wanting, or the input could not be read
abbrev pub IsSilent : Status → Type 0
IsSilent Done = ⊥
IsSilent Memory = Unit {0}
IsSilent Usage = ⊥
IsSilent SystemFault = ⊥
IsSilent SourceFault = ⊥
IsSilent ScriptFault = ⊥
IsSilent ReadFault = Unit {0}
IsSilent WriteFault = ⊥

-- the input is what the source tells as left, or any where it doesn't tell
abbrev pub IsInput : Option (List ℕ) → List ℕ → Type 0
IsInput (Some left) input = input ≡ left
IsInput None input = Unit {0}

-- The text of the answer to the input was added to what was written, and the status is the answer's.
abbrev pub Answers : Asked → Option (List ℕ) → Option (List ℕ) → Option (List ℕ) → Status → Type 0
Answers asked left before after status =
    (input : List ℕ) × IsInput left input × Appends before after (asked.answer input).text × (status ≡ (asked.answer input).status)

-- a front of that text was added, or nothing
abbrev pub AnswersInPart : Asked → Option (List ℕ) → Option (List ℕ) → Option (List ℕ) → Type 0
AnswersInPart asked left before after =
    (input : List ℕ) × IsInput left input × AppendsPart before after (asked.answer input).text

-- the bytes of the input that are asked for were taken, and no others
abbrev pub TookInput : Asked → Option (List ℕ) → Option (List ℕ) → Type 0
TookInput asked (Some left) (Some after) = after ≡ drop (taken asked left) left
TookInput asked (Some left) None = ⊥
TookInput asked None after = Unit {0}

-- where the source tells its input, the answer to the input has this status
abbrev pub IsAnswerStatus : Status → Asked → Option (List ℕ) → Type 0
IsAnswerStatus wanted asked left = IfSome left (λ input. (asked.answer input).status ≡ wanted)

-- where the source tells its input and the answer to the input has this status, the call ends with it
abbrev pub EndsWhere : Status → Asked → Option (List ℕ) → Status → Type 0
EndsWhere wanted asked left ended = IfSome left (λ input. (asked.answer input).status ≡ wanted → ended ≡ wanted)

-- no fault was counted, and none could be: a count that stands at its last value, 2^64 - 1, tells nothing
abbrev pub IsCalm : ℕ → ℕ → Type 0
IsCalm before after = ¬ HasRisen before after

-- the status that was to come, or the text was not written whole
abbrev pub Ends : Status → Status → Type 0
Ends wanted ended = (ended ≡ wanted) ⊎ (ended ≡ WriteFault)

-- A text was written, or a front of it, and the call ended: what is written and how many writes have failed, before and after.
pub record Finishes (before after : Option (List ℕ)) (faults faults_after : ℕ) (text : List ℕ) (wanted ended : Status) : Type 0 where
  pub status : Ends wanted ended
  pub whole : IsWhole ended → Appends before after text
  pub calm : IsWhole ended → faults_after ≡ faults
  pub part : ended ≡ WriteFault → AppendsPart before after text
  pub fault : ended ≡ WriteFault → HasRisen faults faults_after
