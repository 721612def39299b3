use Rattle.std.proofs.Common.{refl}
use Rattle.net_model.specs.Switch.{moves_from, free_end}
use Rattle.net_model.specs.Ways.{first_difference}
use Rattle.net_model.proofs.quiet_switch.Goals as goal

pub returns : goal.returns
unfolding moves_from free_end first_difference
returns c = λ routes slot threads last memory. refl
