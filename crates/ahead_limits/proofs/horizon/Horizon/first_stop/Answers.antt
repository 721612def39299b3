-- No end stops the node to which no arc comes.
use Rattle.std.proofs.Common.{◌≡◌, drop, sym, ap, ◌∙◌, subst, arith}
use Rattle.ahead_limits.specs.Horizon.{HorizonRec, first_stop}
use Rattle.ahead_limits.specs.Bound.{NoneFrom}
use Rattle.ahead_limits.proofs.Reached.{none_stops_from}
use Rattle.ahead_limits.proofs.horizon.Horizon.first_stop.Goals as goal

pub returns : goal.returns
returns c =
    let ends = c.args.self.now.ends in
    let reached = c.self.inside.reached in
    let none : NoneFrom reached ends = subst (λ (h : HorizonRec). NoneFrom reached h.ends) c.self.view_is c.self.invariant.3 in
    let all : reached ≡ c.loop-end.end = omega arith in
    sym (none_stops_from c.args.clock reached ends none) ∙ ap (λ n. first_stop c.args.clock n (drop n ends)) all ∙ sym c.loop-end.invariant
