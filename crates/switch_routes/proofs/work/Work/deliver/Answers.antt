use Rattle.std.proofs.Common.{◌∙◌, List, sym, ap, get_or, arith}
use Rattle.xs_model.specs.Record.{ChanRec, unused_chan}
use Rattle.xs_model.specs.Waits.{has_room}
use Rattle.switch_routes.proofs.GoesBy.{goes-then, goes-as}
use Rattle.switch_routes.proofs.Rules.{deliver-room}
use Rattle.switch_routes.proofs.work.Work.deliver.Goals as goal

pub returns-then-put_into : goal.returns-then-put_into
returns-then-put_into c =
    let i = c.args.input in
    let n = c.args.chan in
    let room = c.put_into.ensures.room in
    goes-as 1 (λ begun m s. deliver-room i n c.args.token m (sym c.is_pause.ensures.value ∙ c.if-is_pause.false) (sym (ap (λ (cs : List ChanRec). has_room 1 (get_or cs n unused_chan).input) s.chans) ∙ sym room ∙ c.if-put_into.true))
    (goes-then 1 0 1 (omega arith)
    (goes-then 0 1 1 (omega arith) (goes-then 0 0 0 (omega arith) (c.put_into.ensures.put c.if-put_into.true) c.take_first-then-put_into.ensures.goes) c.tell.ensures)
    c.after_token-then-put_into.ensures)
