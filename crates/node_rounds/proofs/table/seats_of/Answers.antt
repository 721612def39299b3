use Rattle.std.proofs.Common.{List, [], ◌∷◌, ◌++◌, map, sym, ap, ◌∙◌, subst}
use Rattle.std.specs.Prelude.{All}
use Rattle.std.proofs.lemmas.List.{map_push}
use Rattle.node_runners.specs.Runner.{RunnerRec}
use Rattle.plan_lanes.proofs.Places.{all_at_push}
use Rattle.node_rounds.specs.declared.seat.Seat.{Seat}
use Rattle.node_rounds.specs.Sends.{IsFreshSeat}
use Rattle.node_rounds.proofs.table.seats_of.Goals as goal

pub loop-runner-preserved : goal.loop-runner-preserved
loop-runner-preserved c =
    let of_seat : Seat → RunnerRec = λ s. s.runner in
    let before = c.loop-runner.seats.items in
    let seat = c.new.result in
    let pushed = c.in_ok-push.ensures.items in
    record {
      runners = ap (map of_seat) pushed ∙ map_push of_seat before seat ∙ (λ i. c.loop-runner.invariant.runners i ++ c.new.ensures.runner i ∷ []);
      fresh = subst (λ (xs : List Seat). All IsFreshSeat xs) (sym pushed)
          (all_at_push (λ k s. IsFreshSeat s) before seat c.loop-runner.invariant.fresh (record { none = c.new.ensures.none }));
    }
