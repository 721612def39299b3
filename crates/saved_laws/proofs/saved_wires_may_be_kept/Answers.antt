use Rattle.saved_laws.proofs.Kept.{wires_may_be_kept}
use Rattle.saved_laws.proofs.saved_wires_may_be_kept.Goals as goal

pub returns : goal.returns
returns c = record { wires = wires_may_be_kept }
