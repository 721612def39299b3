use Rattle.std.proofs.Common.{ℕ, ◌+◌, ap, arith}
use Rattle.xs_base.specs.declared.token.Token.TheVariants.{Byte}
use Rattle.xs_model.specs.Record.{Out}
use Rattle.net_model.specs.Switch.{send, to_state}
use Rattle.switch_routes.proofs.GoesBy.{goes-then, goes-as}
use Rattle.switch_routes.proofs.work.Work.out_header.Goals as goal

pub returns : goal.returns
returns c =
    let i = c.args.input in
    let held = c.args.held in
    goes-as 0 (λ begun m s. ap (λ (b : ℕ). to_state i (Out held.end (held.headers + 1) held.dest) (send begun.slot held.end (Byte b) m)) c.header_byte-byte.ensures.value)
    (goes-then 0 0 0 (omega arith) c.send.ensures c.set.ensures)
