-- What a group keeps beside its entries, so that none of them has to be asked.
use Rattle.std.specs.Prelude.{ℕ, ◌≡◌, ◌<◌, List, slice_index_or, IfSome}
use Rattle.xs_base.specs.Numbers.{ThreadNumber}
use Rattle.xs_base.specs.declared.numbers.TheConstants.{THREADS}
use Rattle.xs_model.specs.Masks.{in_mask}
use Rattle.xs_model.specs.Syncs.{is_thread}
use Rattle.xs_model.specs.Enabling.{disabled_where}
use Rattle.xs_model.specs.Record.{EnablingRec, not_enabled}

abbrev pub entry_at : List EnablingRec → ℕ → EnablingRec
entry_at entries n = slice_index_or entries n not_enabled

-- an entry is enabled by a thread of the core, if by one
abbrev pub HasThread : EnablingRec → Type 0
HasThread e = IfSome e.thread (λ k. k < THREADS)

-- each thread's mask has the bits of what it enabled, and one mask those of what gives interrupts
pub record AreMarks (masks : List ℕ) (modes : ℕ) (entries : List EnablingRec) : Type 0 where
  pub enabled : (k : ThreadNumber) → k < THREADS → (n : ℕ) → n < 32 → in_mask (slice_index_or masks k 0) n ≡ is_thread k (entry_at entries n).thread
  pub interrupts : (n : ℕ) → n < 32 → in_mask modes n ≡ (entry_at entries n).interrupt
  pub threads : (n : ℕ) → HasThread (entry_at entries n)

-- an entry, disabled if a mask has its number
abbrev pub disabled_in : ℕ → ℕ → EnablingRec → EnablingRec
disabled_in mask n e = disabled_where (λ _. in_mask mask n) e
