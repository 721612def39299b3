use Rattle.std.proofs.Common.{arith}
use Rattle.vcd_writer.proofs.Told.{one_pin}
use Rattle.vcd_writer.proofs.changes.put_ports.Goals as goal

pub loop-port-preserved : goal.loop-port-preserved
loop-port-preserved c =
    one_pin c.args.slot c.args.node c.loop-port.port c.args.before.now c.args.after.now c.args.out.now c.loop-port.out c.put_port.new.out
    (omega (arith, c.told-before, c.loop-port-test.true)) (omega (arith, c.told-after, c.loop-port-test.true)) c.loop-port.invariant c.in_ok-put_port.ensures
