use Rattle.rank_laws.proofs.Held.{held_rise_where_yes}
use Rattle.rank_laws.proofs.held_routes_rise.Goals as goal

pub returns : goal.returns
returns c = record { rise = held_rise_where_yes }
