-- Transfers fit the transfer width of their port.
use Rattle.std.proofs.Common.{ℕ, ◌<◌, ◌^◌, Option, Some, None, arith}
use Rattle.std.specs.Prelude.{IfSome}
use Rattle.std.proofs.Math.Nat.{pow-le-pow_right}
use Rattle.xs_model.specs.Record.{TransferRec}
use Rattle.single_port.specs.Keeps.{IsTransfer}

pub fits_transfer : (bits : ℕ) (transfer : Option TransferRec) → IfSome transfer (IsTransfer bits) → IfSome transfer (λ t. t.value < 2 ^ bits)
fits_transfer bits None fits = fits
fits_transfer bits (Some t) fits = omega (arith, fits.value, pow-le-pow_right {n = 2} (omega arith) fits.bits)
