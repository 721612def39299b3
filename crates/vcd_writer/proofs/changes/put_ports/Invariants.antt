use Rattle.std.proofs.Common.{take}
use Rattle.wave_model.specs.Runs.{port_changes}
use Rattle.vcd_writer.specs.Tells.{Tells}
use Rattle.vcd_writer.proofs.changes.put_ports.Given as goal

abbrev pub invariant-loop-port : goal.invariant-loop-port
invariant-loop-port l = Tells l.fn.out l.out (port_changes l.slot l.node 0 (take l.port l.before) (take l.port l.after))
