use Rattle.std.proofs.Common.{◌≡◌, [], ◌∷◌, ◌++◌, sym, ap, ◌∙◌}
use Rattle.std.proofs.lemmas.List.{map_more}
use Rattle.serial_model.specs.Serial.{history}
use Rattle.trace_model.specs.Trace.{tokens_sent, credits_sent}
use Rattle.node_rounds.specs.Parts.{sent_by}
use Rattle.node_rounds.proofs.parts.totals_in_all.Goals as goal

pub loop-lane-preserved : goal.loop-lane-preserved
loop-lane-preserved c =
    let lane = c.lane-item.result in
    let carried = history lane.log.run lane.log.number 0 lane.log.published in
    let tokens : c.totals_in.result.0 ≡ tokens_sent carried = c.totals_in.ensures.tokens in
    let credits : c.totals_in.result.1 ≡ credits_sent carried = c.totals_in.ensures.credits in
    let sent : c.totals_in.result ≡ sent_by lane = λ i. (tokens i, credits i) in
    c.in_ok-push.ensures.items ∙ (λ i. c.loop-lane.invariant i ++ (sent ∙ ap sent_by c.lane-item.is) i ∷ [])
    ∙ sym (map_more sent_by c.args.lanes.now c.loop-lane.lane-index lane c.loop-lane-test.true)
