use Rattle.log_cells.proofs.Kept.{left_at_home}
use Rattle.log_cells.proofs.cell.log_at_home.Goals as goal

pub returns : goal.returns
returns g c = record { agrees = left_at_home _ _ _ c.args.seat.me.0 _ c.requires.joined c.close_with-closed.ensures.values.2 c.take-log.ensures.value }
