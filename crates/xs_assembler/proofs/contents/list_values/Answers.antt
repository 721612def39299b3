use Rattle.std.proofs.Common.{ap, ◌∙◌}
use Rattle.xs_assembler.specs.Parts.{read_amount}
use Rattle.xs_assembler.specs.Sofar.{sofar_of}
use Rattle.xs_assembler.specs.Values.{values_left}
use Rattle.xs_assembler.proofs.Found.{list_next, list_past, list_over}
use Rattle.xs_assembler.proofs.contents.list_values.Goals as goal

pub returns-then-not-branch : goal.returns-then-not-branch
returns-then-not-branch c =
    list_past (sofar_of c.args.whole.now) c.loop-left.found c.put_amount.new.found c.in_ok-put_amount.field-0 (read_amount c.in-Some-next_value.amount)
    (values_left c.args.list.width c.loop-left.left) (values_left c.args.list.width c.in-Some-next_value.rest) _
    c.if-not-branch.true (ap (values_left c.args.list.width) c.in-Some.is ∙ c.in-Some-next_value.ensures.value) c.in_ok-put_amount.ensures.put c.loop-left.invariant

pub loop-left-preserved : goal.loop-left-preserved
loop-left-preserved c =
    list_next (sofar_of c.args.whole.now) c.loop-left.found c.put_amount.new.found c.in_ok-put_amount.field-0 (read_amount c.in-Some-next_value.amount)
    (values_left c.args.list.width c.loop-left.left) (values_left c.args.list.width c.in-Some-next_value.rest) _
    c.if-not-branch.false (ap (values_left c.args.list.width) c.in-Some.is ∙ c.in-Some-next_value.ensures.value) c.in_ok-put_amount.ensures.put c.loop-left.invariant

pub returns : goal.returns
returns c = list_over (sofar_of c.args.whole.now) c.loop-left.found (values_left c.args.list.width c.loop-left.left) _ (ap (values_left c.args.list.width) c.in_default.is) c.loop-left.invariant
