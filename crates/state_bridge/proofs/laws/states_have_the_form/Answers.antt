use Rattle.state_bridge.proofs.Forms.{state_has}
use Rattle.state_bridge.proofs.laws.states_have_the_form.Goals as goal

pub returns : goal.returns
returns c = record { fits = state_has }
