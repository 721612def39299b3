use Rattle.std.proofs.Common.{ℕ, ◌≡◌, ◌≢◌, ◌<◌}
use Rattle.xs_base.specs.Ids.{port_width, port_letter}
use Rattle.xs_base.proofs.ids.port_named.Given as goal

abbrev pub invariant-loop-port : goal.invariant-loop-port
invariant-loop-port l = (p : ℕ) → p < l.port → port_width p ≡ l.width → port_letter p ≢ l.letter
