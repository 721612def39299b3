use Rattle.std.proofs.Common.{sym, ◌∙◌, arith}
use Rattle.state_forms.proofs.Slaves.{some_more, some_here, none_of}
use Rattle.state_forms.proofs.sync.some_cannot_be_slave.Goals as goal

pub loop-thread-preserved : goal.loop-thread-preserved
loop-thread-preserved c =
    some_more c.args.taken.now c.args.before.now c.args.slaves c.loop-thread.thread (omega arith) c.loop-thread.invariant (sym c.is_wrong_slave.ensures ∙ c.if-is_wrong_slave.false)

pub returns-then-is_wrong_slave : goal.returns-then-is_wrong_slave
returns-then-is_wrong_slave c =
    sym (some_here c.args.taken.now c.args.before.now c.args.slaves c.loop-thread.thread (omega arith) (sym c.is_wrong_slave.ensures ∙ c.if-is_wrong_slave.true))

pub returns : goal.returns
returns c = sym (none_of c.args.taken.now c.args.before.now c.args.slaves c.loop-thread.thread (omega arith) c.loop-thread.invariant)
