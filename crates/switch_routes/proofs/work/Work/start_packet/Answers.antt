use Rattle.std.proofs.Common.{ℕ, Option, List, ap, ap₂, ◌∙◌, ◌-◌, get_or, arith}
use Rattle.xs_model.specs.declared.dest.Dest.{Dest}
use Rattle.xs_model.specs.Record.{ChanRec, Want, unused_chan, chan_of}
use Rattle.net_model.specs.Switch.{start_packet, want_step, to_state}
use Rattle.switch_routes.proofs.GoesBy.{goes-then, goes-as, goes-nowhere}
use Rattle.switch_routes.proofs.work.Work.start_packet.Goals as goal

pub returns-in-Some : goal.returns-in-Some
returns-in-Some c =
    let i = c.args.input in
    goes-as 1 (λ begun m s.
    ap₂ (λ (e : Dest) (net : ℕ). want_step begun.routes begun.slot i e net (to_state i (Want e net) m)) c.of_id-dest.ensures.value (c.net-net.ensures.value ∙ ap (λ (cs : List ChanRec). (get_or cs (i - 8) unused_chan).net) s.chans)
    ∙ ap (λ (o : Option ℕ). start_packet (want_step begun.routes begun.slot i) i (chan_of m.rec.core (i - 8)).net o m) (c.in-Some.ensures.value ∙ ap (λ (cs : List ChanRec). (get_or cs (i - 8) unused_chan).dest) s.chans))
    (goes-then 0 1 1 (omega arith) c.set.ensures c.want_step.ensures)

pub returns-in_default : goal.returns-in_default
returns-in_default c =
    let i = c.args.input in
    goes-as 1 (λ begun m s. ap (λ (o : Option ℕ). start_packet (want_step begun.routes begun.slot i) i (chan_of m.rec.core (i - 8)).net o m) (c.in_default.ensures.value ∙ ap (λ (cs : List ChanRec). (get_or cs (i - 8) unused_chan).dest) s.chans))
    (goes-nowhere 1 c.args.self.now)
