use Rattle.std.proofs.Common.{◌<◌, length, get_or, sym, ap, ◌∙◌, subst, arith}
use Rattle.std.specs.Prelude.{slice_set}
use Rattle.std.proofs.lemmas.List.{get_or_default}
use Rattle.std.proofs.lemmas.List.Edits.{map_over_more}
use Rattle.crossings.specs.Crossings.{crossing_of}
use Rattle.serial_model.specs.Serial.{arriving}
use Rattle.node_runners.specs.Queue.{InletRec, AreWaiting, after_slot}
use Rattle.node_runners.proofs.Gathers.{arrivals-more, rest-at}
use Rattle.node_runners.proofs.inlet.arrive_all.Goals as goal

pub arrive-crossing-requires : goal.arrive-crossing-requires
arrive-crossing-requires c =
    let end = c.loop-end.end in
    let old = c.args.inlets.now in
    let within : end < length old = omega arith in
    let here = ap (λ xs. get_or xs end c.index-inlets-end.result) c.loop-end.invariant.left ∙ rest-at c.args.slot old end c.index-inlets-end.result within in
    record { waits = subst (λ (x : InletRec). AreWaiting c.args.slot x.delay x.queue) (sym here) (c.requires.waits end within) }

pub loop-end-preserved : goal.loop-end-preserved
loop-end-preserved c =
    let slot = c.args.slot in
    let end = c.loop-end.end in
    let old = c.args.inlets.now in
    let now = c.loop-end.inlets in
    let item = c.index-inlets-end.result in
    let within : end < length old = omega arith in
    let within_now : end < length now = omega arith in
    let eight : end < 8 = omega (arith, within, c.requires.few) in
    let here = ap (λ xs. get_or xs end item) c.loop-end.invariant.left ∙ rest-at slot old end item within in
    let crossed = c.arrive-crossing.ensures.arrives ∙ ap (λ (x : InletRec). crossing_of (arriving slot x.delay x.queue)) here in
    record {
      left = ap (slice_set now end) c.arrive-crossing.ensures.left ∙ map_over_more (after_slot slot) old now end (get_or now end item) within c.loop-end.invariant.left (get_or_default now end item (get_or now end item) within_now);
      arrivals = arrivals-more slot end old c.arrive-crossing.result c.loop-end.arrivals within eight c.loop-end.invariant.arrivals crossed;
    }
