use Rattle.std.proofs.lemmas.Bool.{eqb-true}
use Rattle.buffered_ports.proofs.InTurn.{odd_is_idle}
use Rattle.buffered_ports.proofs.slot.has_no_edge.Goals as goal

pub returns : goal.returns
returns c odd clocks before p port outside = odd_is_idle c.args.slot clocks before p port outside (eqb-true _ _ odd)
