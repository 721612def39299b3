use Rattle.begun_laws.proofs.Begun.{start_is_serial, goes_on}
use Rattle.begun_laws.proofs.systems_go_on.Goals as goal

pub returns : goal.returns
returns c = record { start = start_is_serial; on = goes_on }
