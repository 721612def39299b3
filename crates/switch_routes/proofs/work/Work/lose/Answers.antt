use Rattle.std.proofs.Common.{ℕ, ap, arith}
use Rattle.xs_model.specs.declared.event.Happen.TheVariants as happen
use Rattle.xs_model.specs.Record.{Lost}
use Rattle.xs_model.specs.AtWork.{it_happens}
use Rattle.net_model.specs.Switch.{to_state}
use Rattle.switch_routes.proofs.GoesBy.{goes-then, goes-as}
use Rattle.switch_routes.proofs.work.Work.lose.Goals as goal

pub returns : goal.returns
returns c =
    let i = c.args.input in
    goes-as 1 (λ begun m s. ap (λ (id : ℕ). it_happens (happen.Lost id) (to_state i Lost m)) c.id.ensures.value)
    (goes-then 0 1 1 (omega arith) c.set.ensures c.tell.ensures)
