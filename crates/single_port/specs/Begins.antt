-- When the next transfer of a port begins, which only counts until then.
use Rattle.std.specs.Prelude.{ℕ, ◌≡◌, ◌<◌, Bool, true, false, Option}
use Rattle.xs_model.specs.Record.{PortRec}
use Rattle.xs_model.specs.Ports.{is_due}
use Rattle.quiet_model.specs.Clocks.{counter_after_falls}
use Rattle.quiet_model.specs.Stirs.{transfer_is_due}

-- a test holds of one number, counted from 1, and of none of those before
pub record FirstHolds (holds : ℕ → Bool) (k : ℕ) : Type 0 where
  pub some : 0 < k
  pub none_before : (n : ℕ) → 0 < n → n < k → holds n ≡ false
  pub there : holds k ≡ true

-- a time is first due with the k-th falling edge
abbrev pub IsDueAt : ℕ → Option ℕ → ℕ → Type 0
IsDueAt counter time k = FirstHolds (λ n. is_due (counter_after_falls n counter) time) k

-- the next transfer begins with the k-th falling edge
abbrev pub BeginsAt : PortRec → ℕ → Type 0
BeginsAt port k = FirstHolds (λ n. transfer_is_due (counter_after_falls n port.counter) port.transfer) k

-- a port after so many falling edges at which it only counts
abbrev pub counted : ℕ → PortRec → PortRec
counted falls port = record port { counter = counter_after_falls falls port.counter }
