use Rattle.answer_model.proofs.Statuses.{exactly_frame, exactly_source, exactly_script, exactly_plan, usage_alone}
use Rattle.answer_model.proofs.statuses_of_systems.Goals as goal

pub returns : goal.returns
returns c = record {
  system_fault = exactly_frame;
  source_fault = exactly_source;
  script_fault = exactly_script;
  done = exactly_plan;
  others = usage_alone;
}
