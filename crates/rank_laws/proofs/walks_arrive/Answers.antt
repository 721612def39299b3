use Rattle.rank_laws.proofs.Arrives.{arrive_where_yes}
use Rattle.rank_laws.proofs.walks_arrive.Goals as goal

pub returns : goal.returns
returns c = record { arrive = arrive_where_yes }
