use Rattle.snap_codec.proofs.Whole.{snap_again, snap_read, snap_form}
use Rattle.snap_codec.proofs.ArcFacts.{system_is}
use Rattle.snap_codec.proofs.laws.snaps_are_lawful.Goals as goal

pub returns : goal.returns
returns c = record { again = snap_again; read = snap_read; form = snap_form; system = λ plan snap is. system_is plan snap.body is.body }
