use Rattle.single_port.proofs.States.{below_fits}
use Rattle.single_port.proofs.snapshot.shift_word.Goals as goal

pub returns-else-state-clause-fits : goal.returns-else-state-clause-fits
returns-else-state-clause-fits c =
    below_fits c.args.state.now.output c.args.state.now.tw c.args.state.now.count c.args.state.now.sr
    c.from.result c.from-else-state.result c.if-state.false c.from-else-state.ensures c.from.ensures c.requires.count c.requires.shift
