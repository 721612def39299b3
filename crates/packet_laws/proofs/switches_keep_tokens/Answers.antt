use Rattle.packet_laws.proofs.FlowSteps.{steps}
use Rattle.packet_laws.proofs.FlowSlots.{switch_works}
use Rattle.packet_laws.proofs.switches_keep_tokens.Goals as goal

pub returns-clause-step : goal.returns-clause-step
returns-clause-step c routes slot i m within works = steps routes slot i m within works

pub returns-clause-slot : goal.returns-clause-slot
returns-clause-slot c fixed rec slot arrivals pins switch = switch_works fixed rec slot arrivals pins switch
