use Rattle.answer_model.proofs.RouteStatuses.{exactly_judged, exactly_refused, exactly_source, exactly_script}
use Rattle.answer_model.proofs.statuses_of_routes.Goals as goal

pub returns : goal.returns
returns c = record {
  done = exactly_judged;
  system_fault = exactly_refused;
  source_fault = exactly_source;
  script_fault = exactly_script;
}
