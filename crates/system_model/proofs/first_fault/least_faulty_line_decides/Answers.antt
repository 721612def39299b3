use Rattle.system_model.proofs.FirstFault.{no_words_refuse, refused_at, first_fault_refuses, taken_at, no_fault_ends}
use Rattle.system_model.proofs.first_fault.least_faulty_line_decides.Goals as goal

pub returns : goal.returns
returns c = record {
  wordless = no_words_refuse;
  refused = refused_at;
  faulty = first_fault_refuses;
  taken = taken_at;
  faultless = no_fault_ends;
}
