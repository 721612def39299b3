use Rattle.std.proofs.Common.{◌∙◌, arith}
use Rattle.buffered_ports.proofs.Row.{row_length, restarted_more, all_restarted}
use Rattle.buffered_ports.proofs.ports.Ports.restart_block.Goals as goal

pub loop-p-preserved : goal.loop-p-preserved
loop-p-preserved c =
    c.restart_port.ensures
    ∙ restarted_more c.args.k c.loop-p.p c.args.self.now c.loop-p.self (omega (arith, c.loop-p-test.true, row_length c.self.inside c.args.self.now c.self.view_is c.self.invariant)) c.loop-p.invariant

pub returns : goal.returns
returns c =
    all_restarted c.args.k c.loop-p.p c.args.self.now c.loop-p.self (omega (arith, c.loop-p-test.false, row_length c.self.inside c.args.self.now c.self.view_is c.self.invariant)) c.loop-p.invariant
