use Rattle.answer_model.proofs.PinsStatuses.{exactly_scripts, exactly_refused, never_source, never_script}
use Rattle.answer_model.proofs.statuses_of_pins.Goals as goal

pub returns : goal.returns
returns c = record {
  done = exactly_scripts;
  system_fault = exactly_refused;
  source_fault = never_source;
  script_fault = never_script;
}
