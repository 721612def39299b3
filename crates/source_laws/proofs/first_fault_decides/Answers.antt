use Rattle.source_laws.proofs.FirstFault.{refused_at, faulty_at, taken_at, faultless_at}
use Rattle.source_laws.proofs.first_fault_decides.Goals as goal

pub returns-clause-refused : goal.returns-clause-refused
returns-clause-refused c = refused_at

pub returns-clause-faulty : goal.returns-clause-faulty
returns-clause-faulty c = faulty_at

pub returns-clause-taken : goal.returns-clause-taken
returns-clause-taken c = taken_at

pub returns-clause-faultless : goal.returns-clause-faultless
returns-clause-faultless c = faultless_at
