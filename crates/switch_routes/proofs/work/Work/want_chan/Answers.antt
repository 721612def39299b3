use Rattle.std.proofs.Common.{◌∙◌, ltb, List, sym, ap, refl, arith}
use Rattle.std.specs.Prelude.{not, ◌||◌, get_or}
use Rattle.std.specs.List.{list_any}
use Rattle.xs_model.specs.Record.{ChanRec, InputRec, unused_chan}
use Rattle.net_model.specs.Switch.{is_local_to}
use Rattle.switch_routes.proofs.GoesBy.{goes-then, goes-as, goes-nowhere}
use Rattle.switch_routes.proofs.Rules.{want-lost, want-local, want-held}
use Rattle.switch_routes.proofs.work.Work.want_chan.Goals as goal

pub returns-then-not-is_in_use : goal.returns-then-not-is_in_use
returns-then-not-is_in_use c =
    let i = c.args.input in
    let n = c.args.dest.chan in
    goes-as 1 (λ begun m s. want-lost begun.routes begun.slot i c.args.dest m n refl
    (sym (ap (λ (cs : List ChanRec). not (ltb n 32) || not (get_or cs n unused_chan).used) s.chans) ∙ c.is_in_use.ensures.value ∙ ap not c.if-not-is_in_use.true))
    c.lose.ensures

pub returns-then-not-chan_is_held : goal.returns-then-not-chan_is_held
returns-then-not-chan_is_held c =
    let i = c.args.input in
    let n = c.args.dest.chan in
    goes-as 1 (λ begun m s. want-local begun.routes begun.slot i c.args.dest m n refl
    (sym (ap (λ (cs : List ChanRec). not (ltb n 32) || not (get_or cs n unused_chan).used) s.chans) ∙ c.is_in_use.ensures.value ∙ ap not c.if-not-is_in_use.false)
    (sym (ap (λ (xs : List InputRec). list_any (is_local_to n) xs) s.inputs) ∙ sym c.chan_is_held.ensures.value ∙ c.if-not-chan_is_held.true))
    (goes-then 0 1 1 (omega arith) c.set.ensures c.local_step.ensures)

pub returns-else-not-chan_is_held : goal.returns-else-not-chan_is_held
returns-else-not-chan_is_held c =
    let i = c.args.input in
    let n = c.args.dest.chan in
    goes-as 1 (λ begun m s. want-held begun.routes begun.slot i c.args.dest m n refl
    (sym (ap (λ (cs : List ChanRec). not (ltb n 32) || not (get_or cs n unused_chan).used) s.chans) ∙ c.is_in_use.ensures.value ∙ ap not c.if-not-is_in_use.false)
    (sym (ap (λ (xs : List InputRec). list_any (is_local_to n) xs) s.inputs) ∙ sym c.chan_is_held.ensures.value ∙ c.if-not-chan_is_held.false))
    (goes-nowhere 1 c.args.self.now)
