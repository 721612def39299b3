-- What is left of a run that has gone round by round.
use Rattle.serial_model.specs.Serial.{history}
use Rattle.trace_model.specs.Trace.{tokens_sent, credits_sent}
use Rattle.node_runners.specs.Runner.{RunnerRec}
use Rattle.finished_runs.specs.Limit.{Totals}
use Rattle.plan_lanes.specs.declared.lane.Lane.{Lane}
use Rattle.node_rounds.specs.declared.seat.Seat.{Seat}

abbrev pub runner_of : Seat → RunnerRec
runner_of seat = seat.runner

-- how many tokens, and how many credits, an arc has carried before the slot up to which it is published
abbrev pub sent_by : Lane → Totals
sent_by lane = (tokens_sent (history lane.log.run lane.log.number 0 lane.log.published), credits_sent (history lane.log.run lane.log.number 0 lane.log.published))
