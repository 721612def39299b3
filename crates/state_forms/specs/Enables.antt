-- How what resources give stands in bytes.
use Rattle.std.specs.Prelude.{ℕ, ◌+◌, ◌-◌, ◌==◌, nat_lt, if◌then◌else◌, Bool, Option, Some, None}
use Rattle.xs_base.specs.declared.numbers.TheConstants.{THREADS}
use Rattle.event_unit.specs.declared.state.EnableState.{EnableState}
use Rattle.byte_forms.specs.Forms.{Form, byte, word, flag, below, both, seen_as}

-- ---- Who enabled a resource

abbrev pub thread_before : ℕ → Option ℕ
thread_before n = if n == 0 then None else Some (n - 1)

-- what is no thread's number has a byte that is not read
abbrev pub byte_after : Option ℕ → ℕ
byte_after None = 0
byte_after (Some k) = if nat_lt k THREADS then k + 1 else 255

-- 0 for none, and 1 + its number for a thread
unfoldable pub enabler : Form (Option ℕ)
enabler = seen_as (below byte (THREADS + 1)) thread_before byte_after

-- ---- What a resource gives

abbrev pub enable_of_fields : ℕ × (ℕ × (Bool × Option ℕ)) → EnableState
enable_of_fields (vector, (env, (interrupt, by))) = record { vector = vector; env = env; interrupt = interrupt; by = by }

abbrev pub enable_fields : EnableState → ℕ × (ℕ × (Bool × Option ℕ))
enable_fields state = (state.vector, (state.env, (state.interrupt, state.by)))

-- the vector, the environment, whether it gives interrupts, and who enabled it
unfoldable pub enable : Form EnableState
enable = seen_as (both word (λ vector. both word (λ env. both flag (λ interrupt. enabler)))) enable_of_fields enable_fields
