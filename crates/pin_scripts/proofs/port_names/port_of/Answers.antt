use Rattle.std.proofs.Common.{bytes_eq, sym, arith}
use Rattle.pin_scripts.specs.Pins.{port_name, port_of}
use Rattle.pin_scripts.proofs.Ports.{no-port, first-port}
use Rattle.pin_scripts.proofs.port_names.port_of.Goals as goal

pub returns-then-is_name_of-clause-value : goal.returns-then-is_name_of-clause-value
unfolding port_of
returns-then-is_name_of-clause-value c = sym (first-port (λ p. bytes_eq (port_name p) c.args.name.now) c.loop-port.port (omega arith) c.loop-port.invariant cc)

pub returns-clause-value : goal.returns-clause-value
unfolding port_of
returns-clause-value c = sym (no-port (λ p. bytes_eq (port_name p) c.args.name.now) (λ n l. c.loop-port.invariant n (omega (arith, l))))
