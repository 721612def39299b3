use Rattle.system_answers.proofs.Taken.{system_of-taken}
use Rattle.system_answers.proofs.taken_stands_for_all.Goals as goal

pub returns : goal.returns
returns c = system_of-taken
