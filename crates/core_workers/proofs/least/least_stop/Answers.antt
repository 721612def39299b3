use Rattle.std.proofs.Common.{◌≡◌, ◌+◌, ◌<◌, Option, Some, List, ◌∷◌, [], ◌++◌, length, take, sym, ap, ◌∙◌, subst, arith}
use Rattle.std.proofs.lemmas.List.{take_more}
use Rattle.xs_base.specs.Numbers.{Slot, EndNumber}
use Rattle.plan_cells.specs.declared.ends.Incoming.{Incoming}
use Rattle.core_workers.specs.Worker.{stops_here, stopping_ends}
use Rattle.core_workers.specs.Steps.{IsLeastStop, lesser_stop}
use Rattle.core_workers.proofs.Leasts.{one_more, none_more, stop_more, stop_stays}
use Rattle.core_workers.proofs.least.least_stop.Goals as goal
use Rattle.core_workers.proofs.least.least_stop.Goals.{then-stops, else-stops}

pub loop-reader-preserved : goal.loop-reader-preserved
loop-reader-preserved c =
    let plan = c.args.plan.now in
    let clock = c.args.clock in
    let all = c.args.readers.now in
    let k = c.loop-reader.reader-index in
    let x = c.reader-item.result in
    let within : k < length all = omega arith in
    let next = take_more all k x within ∙ ap (λ (i : Incoming). take k all ++ i ∷ []) (sym c.reader-item.is) in
    let ends_on = ap (stopping_ends plan clock) (sym next) in
    let is : Option (EndNumber × Slot) → Type 0 = λ o. IsLeastStop plan clock (take (k + 1) all) o in
    let on : (o : Option (EndNumber × Slot)) → IsLeastStop plan clock (take k all ++ x ∷ []) o → is o =
    λ o h. subst (λ (xs : List Incoming). IsLeastStop plan clock xs o) (sym next) h in
    elim c.if-stops.branch [
      | then-stops w ↦
          let more = ends_on ∙ one_more (stops_here plan clock) (λ (i : Incoming). i.end) all k x within c.reader-item.is (sym c.stops.ensures ∙ w.if-stops.true) in
          let at : w.lesser_of_two.result ≡ lesser_stop c.loop-reader.least x.end x.r.end.got = w.lesser_of_two.ensures ∙ ap (lesser_stop c.loop-reader.least x.end) w.got.ensures.value in
          subst is (sym (w.least-is ∙ ap (λ (stop : EndNumber × Slot). Some stop) at))
          (on (Some (lesser_stop c.loop-reader.least x.end x.r.end.got)) (stop_more plan clock (take k all) x more c.loop-reader.least c.loop-reader.invariant))
      | else-stops w ↦
          let same = ends_on ∙ none_more (stops_here plan clock) (λ (i : Incoming). i.end) all k x within c.reader-item.is (sym c.stops.ensures ∙ w.if-stops.false) in
          subst is (sym w.least-is) (on c.loop-reader.least (stop_stays plan clock (take k all) x same c.loop-reader.least c.loop-reader.invariant))
    ]
