use Rattle.answer_model.proofs.SnapStatuses.{exactly_refused, exactly_done, rests, never_source_fault, never_script_fault}
use Rattle.answer_model.proofs.statuses_of_snapshots.Goals as goal

pub returns : goal.returns
returns c = record {
  system_fault = exactly_refused;
  done = exactly_done;
  rests = rests;
  source_fault = never_source_fault;
  script_fault = never_script_fault;
}
