use Rattle.locality_laws.proofs.Nodes.{arrivals_tell, arrivals_tell_before}
use Rattle.locality_laws.proofs.arrivals_tell_what_comes.Goals as goal

pub returns-clause-now : goal.returns-clause-now
returns-clause-now c = arrivals_tell

pub returns-clause-before : goal.returns-clause-before
returns-clause-before c = arrivals_tell_before
