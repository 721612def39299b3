use Rattle.std.proofs.Common.{sym, ◌∙◌}
use lib.Pointwise.{bytes_decides}
use Rattle.vcd_writer.proofs.Told.{told_nothing}
use Rattle.vcd_writer.proofs.changes.put_node.Goals as goal

pub returns-then-eq : goal.returns-then-eq
returns-then-eq c =
    told_nothing c.args.slot c.args.node c.args.before.now c.args.after.now c.args.out.now c.if-slot-gt0.true
    ((bytes_decides c.args.before.now c.args.after.now).0 (sym c.eq.ensures ∙ c.if-eq.true))
