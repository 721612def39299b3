-- Reading an input, or nothing of it.
use Rattle.std.specs.Prelude.{ℕ, ◌≡◌, Option, Some, None, List, Result, Vec, IfOk, OnOk, IsErrOf}
use Rattle.std.specs.Io.KnownBytes.{Consumes}
use Rattle.xs_edge.specs.Edge.{HasRisen}
use Rattle.program_calls.specs.Reads.{ReadGives, ReadsAtMost}
use Rattle.program_calls.specs.declared.input.ReadError.{ReadError}
use Rattle.program_calls.specs.declared.input.ReadError.TheVariants as error

-- how many bytes are taken at most, where nothing or at most so many are asked for
abbrev pub most_of : Option ℕ → ℕ
most_of None = 0
most_of (Some most) = most

-- and a bound of how many reads are made
abbrev pub reads_of : Option ℕ → ℕ
reads_of None = 1
reads_of (Some most) = most

-- An input, or at most so many bytes of it, was read from a source, or it was not: by which reads, and what the source tells of it.
pub record ReadsInput {S A : Type 0}
    (left_in : S → Option (List ℕ)) (faults : S → ℕ) (read_gives : ReadGives S) (most : ℕ) (source source_after : S) (input : Result (Vec ℕ A) ReadError)
    : Type 0 where
  pub taken : IfOk input (λ bytes. Consumes (left_in source) (left_in source_after) bytes.items)
  pub calm : OnOk input (faults source_after ≡ faults source)
  pub failed : IsErrOf input error.Failed → HasRisen (faults source) (faults source_after)
  pub memory : IsErrOf input error.Memory → faults source_after ≡ faults source
  pub reads : ReadsAtMost read_gives most source source_after
