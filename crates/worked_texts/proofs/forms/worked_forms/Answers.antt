use Rattle.std.proofs.Common.{refl}
use Rattle.worked_texts.proofs.Computes.{computes}
use Rattle.worked_texts.proofs.forms.worked_forms.Goals as goal

pub returns : goal.returns
unfolding computes
returns c = record { printed = record { forms = refl; rows = refl } }
