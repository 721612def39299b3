use Rattle.system_text.proofs.Outcomes.{refuses_cut}
use Rattle.system_text.proofs.system_reader.read_system.Goals as goal

pub returns-clause-cut : goal.returns-clause-cut
returns-clause-cut c = λ text plan line is cut. refuses_cut c.read_all.result text c.args.bytes.now plan line c.read_all.ensures is cut
