use Rattle.circle_search.proofs.Stays.{told}
use Rattle.circle_search.proofs.laws.circles_are_told.Goals as goal

pub returns : goal.returns
returns c = told
