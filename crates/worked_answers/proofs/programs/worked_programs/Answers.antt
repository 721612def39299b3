use Rattle.std.proofs.Common.{refl}
use Rattle.worked_answers.proofs.Computes.{computes}
use Rattle.worked_answers.proofs.programs.worked_programs.Goals as goal

pub returns-clause-programs : goal.returns-clause-programs
unfolding computes
returns-clause-programs c = record {
  division_by_0 = refl;
  kernel_call = refl;
  kernel_call_without_handler = refl;
  exception_call = refl;
  load_of_each_size = refl;
  store_of_each_size = refl;
  mended_load = refl;
}

pub returns-clause-calls : goal.returns-clause-calls
unfolding computes
returns-clause-calls c = record {
  factorial = refl;
}
