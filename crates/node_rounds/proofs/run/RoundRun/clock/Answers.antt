use Rattle.std.proofs.Common.{◌≡◌, ◌<◌, List, length, get_or, sym, ap, ◌∙◌, subst, arith}
use Rattle.std.proofs.lemmas.List.{length-map}
use Rattle.xs_base.specs.Numbers.{Slot}
use Rattle.round_laws.specs.Rounds.{round_clock}
use Rattle.node_rounds.specs.declared.seat.Seat.{Seat}
use Rattle.node_rounds.specs.Run.{RoundRunRec}
use Rattle.node_rounds.specs.Seats.{told}
use Rattle.node_rounds.proofs.Clocks.{clock_at}
use Rattle.node_rounds.proofs.run.RoundRun.clock.Goals as goal

pub returns : goal.returns
returns c =
    let seats = c.self.inside.table.seats.items in
    let seat = c.index.result.now in
    let many = c.self.invariant.between.are_at.node_count in
    let below : c.args.node < length seats = omega (arith, c.requires.node, ap (λ (r : RoundRunRec). length r.plan.nodes) c.self.view_is, many, length-map seats told) in
    let is : c.clock.result ≡ round_clock c.self.inside.plan.value c.self.inside.table.limit c.args.node c.self.inside.passes
    = c.clock.ensures.value ∙ ap (λ (s : Seat). s.runner.clock) c.index.ensures ∙ sym (clock_at seats c.args.node seat below)
    ∙ ap (λ (ns : List Slot). get_or ns c.args.node 0) c.self.invariant.clocks in
    record { value = subst (λ (r : RoundRunRec). c.clock.result ≡ round_clock r.plan r.limit c.args.node r.passes) c.self.view_is is }
