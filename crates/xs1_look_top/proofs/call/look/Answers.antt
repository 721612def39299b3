use Rattle.xs1_look_top.proofs.Asked.{coherent}
use Rattle.xs1_look_top.proofs.call.look.Goals as goal

pub respond-requires-clause-coherent : goal.respond-requires-clause-coherent
respond-requires-clause-coherent g c = coherent _
