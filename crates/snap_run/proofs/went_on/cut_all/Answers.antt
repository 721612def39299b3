use Rattle.std.proofs.Common.{◌≡◌, ◌<◌, List, [], ◌∷◌, ◌++◌, length, take, sym, ap, ◌∙◌, arith}
use Rattle.std.proofs.lemmas.List.{map-append, length-append, length-map}
use Rattle.std.proofs.lemmas.Iterator.Adapters.{YieldsList-from_vec}
use Rattle.std.proofs.lemmas.Iterator.Consumers.{YieldsList-turn}
use Rattle.trace_lines.specs.Kept.{KeptEvents}
use Rattle.trace_merge.specs.Nodes.{events_of}
use Rattle.snap_model.specs.Rest.{room_of, kept_after}
use Rattle.snap_run.proofs.Rests.{kept_first, kept_push}
use Rattle.snap_run.proofs.went_on.cut_all.Goals as goal

pub loop-events-init : goal.loop-events-init
loop-events-init c = record {
  cut = ap events_of c.new-kept.ensures.items ∙ kept_first c.args.nodes.now;
  count = ap length c.new-kept.ensures.items;
}

pub loop-events-preserved : goal.loop-events-preserved
loop-events-preserved c =
    let nodes = c.args.nodes.now in
    let kept = c.loop-events.kept.items in
    let yielded = c.loop-events.yielded in
    let events = c.in-Some.events in
    let node = c.index-nodes-len.result in
    let gives = c.into_iter-events-iterator.ensures.into_iter_gives in
    let road = YieldsList-from_vec {s = c.into_iter-events-iterator.result} c.args.all.items gives.0 (gives.1 ∙ c.args.all.ok.0) in
    let turn = YieldsList-turn road yielded c.loop-events.events-iterator c.loop-events.yielded_by c.next.result c.next.new.self events c.in-Some.is c.next.ensures.steps in
    let here : c.len.result ≡ length (events_of yielded) = omega (arith, c.len.ensures, c.loop-events.invariant.count, length-map yielded (λ (k : KeptEvents). k.events)) in
    let inside : c.len.result < length nodes = omega (arith, here, turn.0, c.requires.nodes, length-map yielded (λ (k : KeptEvents). k.events)) in
    let first : c.in_ok-cut.field-0.events ≡ take (room_of node) events.events = c.in_ok-cut.ensures.first ∙ ap (λ n. take n events.events) c.room_of-room.ensures.value in
    record {
      cut =
          ap events_of c.in_ok-push.ensures.items
          ∙ map-append (λ (k : KeptEvents). k.events) kept (c.in_ok-cut.field-0 ∷ [])
          ∙ (λ i. c.loop-events.invariant.cut i ++ first i ∷ [])
          ∙ sym (kept_push nodes (events_of yielded) events.events c.len.result node here inside (sym c.index-nodes-len.is))
          ∙ ap (kept_after nodes) (sym (map-append (λ (k : KeptEvents). k.events) yielded (events ∷ [])));
      count =
          omega (arith, ap length c.in_ok-push.ensures.items, length-append kept (c.in_ok-cut.field-0 ∷ []), length-append yielded (events ∷ []), c.loop-events.invariant.count);
    }
