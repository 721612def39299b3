use Rattle.load_laws.proofs.FrameRead.{load_read}
use Rattle.load_laws.proofs.systems.loads_are_accepted.Goals as goal

pub returns : goal.returns
returns c = load_read
