use Rattle.std.proofs.Common.{◌≡◌, [], ◌∷◌, ◌++◌, sym, ◌∙◌}
use Rattle.std.proofs.lemmas.List.{map_push}
use Rattle.serial_model.specs.Serial.{history}
use Rattle.trace_model.specs.Trace.{tokens_sent, credits_sent}
use Rattle.core_workers.specs.Gathered.{sent_in}
use Rattle.core_workers.proofs.gather.totals_of.Goals as goal

pub loop-log-preserved : goal.loop-log-preserved
loop-log-preserved c =
    let log = c.in-Some.log in
    let carried = history log.run log.number 0 log.published in
    let tokens : c.totals_in.result.0 ≡ tokens_sent carried = c.totals_in.ensures.tokens in
    let credits : c.totals_in.result.1 ≡ credits_sent carried = c.totals_in.ensures.credits in
    let sent : c.totals_in.result ≡ sent_in log = λ i. (tokens i, credits i) in
    c.in_ok-push.ensures.items ∙ (λ i. c.loop-log.invariant i ++ sent i ∷ []) ∙ sym (map_push sent_in c.loop-log.yielded log)
