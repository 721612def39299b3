use Rattle.std.proofs.Common.{arith}
use Rattle.std.proofs.lemmas.Grind.{common_steps}
use Rattle.core_step.proofs.States.{state_is}
use Rattle.core_step.proofs.node_core.Core.state.Goals as goal

pub returns : goal.returns
returns c = record { state = λ rec for. state_is c.args.self.now rec c.args.out.now _ for (grind (arith, common_steps)) }
