use Rattle.std.proofs.Common.{refl}
use Rattle.worked_answers.proofs.Computes.{computes}
use Rattle.worked_answers.proofs.snapshots.worked_snapshots.Goals as goal

pub returns-clause-forms : goal.returns-clause-forms
unfolding computes
returns-clause-forms c = record {
  save = refl;
  resume = refl;
  most_saved = refl;
  most_resumed = refl;
  ten_digits = refl;
  too_many_saved = refl;
  too_many_resumed = refl;
  eleven_digits = refl;
  no_slots_to_save = refl;
  no_slots_to_resume = refl;
  save_has_no_mode = refl;
  resume_has_no_mode = refl;
  another_case = refl;
  usage = refl;
  usage_of_resume = refl;
  save_goes_on = refl;
  resume_goes_on = refl;
  save_asks = refl;
  resume_asks = refl;
  save_takes = refl;
  resume_takes = refl;
  most_of_save = refl;
  most_of_resume = refl;
  most_of_none = refl;
  reads_of_save = refl;
  reads_of_resume = refl;
  reads_of_none = refl;
}

pub returns-clause-saves : goal.returns-clause-saves
unfolding computes
returns-clause-saves c = record {
  no_nodes = refl;
  two_bytes = refl;
  no_input = refl;
  bad_source = refl;
  bad_script = refl;
}

pub returns-clause-resumes : goal.returns-clause-resumes
unfolding computes
returns-clause-resumes c = record {
  no_nodes = refl;
  at_once = refl;
  last_slot = refl;
  earlier = refl;
  earlier_by_far = refl;
  too_late = refl;
  nothing = refl;
  a_system_text = refl;
  other_line = refl;
  returned_line = refl;
  no_length = refl;
  cut_length = refl;
  cut_text = refl;
  no_slot = refl;
  cut_slot = refl;
  one_byte_more = refl;
  two_faults = refl;
  bad_frame = refl;
  no_text = refl;
  bad_source = refl;
  bad_script = refl;
  too_long = λ bytes long. rw long;
}
