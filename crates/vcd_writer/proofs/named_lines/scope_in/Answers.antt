use Rattle.std.proofs.Common.{sym, ◌∙◌}
use Rattle.vcd_writer.proofs.NodeNumbers.{first-is, first-not}
use Rattle.vcd_writer.proofs.named_lines.scope_in.Goals as goal

pub returns-then-branch : goal.returns-then-branch
returns-then-branch c =
    let is = sym c.in_ok-is_scope_line.ensures ∙ c.if-branch.true in
    sym (c.loop-number.invariant ∙ first-is c.args.line.now c.loop-number.number c.loop-number-test.true is)

pub loop-number-preserved : goal.loop-number-preserved
loop-number-preserved c =
    let is = sym c.in_ok-is_scope_line.ensures ∙ c.if-branch.false in
    c.loop-number.invariant ∙ first-not c.args.line.now c.loop-number.number c.loop-number-test.true is
