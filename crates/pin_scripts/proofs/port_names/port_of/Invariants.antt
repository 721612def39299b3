use Rattle.std.proofs.Common.{ℕ, ◌≡◌, ◌<◌, false, bytes_eq}
use Rattle.pin_scripts.specs.Pins.{port_name}
use Rattle.pin_scripts.proofs.port_names.port_of.Given as goal

abbrev pub invariant-loop-port : goal.invariant-loop-port
invariant-loop-port l = (p : ℕ) → p < l.port → bytes_eq (port_name p) l.name ≡ false
