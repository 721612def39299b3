use Rattle.std.proofs.Common.{refl}
use Rattle.worked_machine.proofs.Computes.{computes}
use Rattle.worked_machine.proofs.modes.worked_modes.Goals as goal

pub returns : goal.returns
unfolding computes
returns c = record { chan = refl; timer = refl; clock = refl; sync = refl; thread = refl; lock = refl; nothing = refl; whole_on = refl; whole_off = refl; whole_after = refl; whole_event = refl }
