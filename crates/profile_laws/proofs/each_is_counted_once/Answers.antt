use Rattle.profile_laws.proofs.Once.{each-is-counted-once}
use Rattle.profile_laws.proofs.each_is_counted_once.Goals as goal

pub returns : goal.returns
returns c = each-is-counted-once
