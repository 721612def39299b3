use Rattle.state_forms.proofs.Rest.{width_fits}
use Rattle.state_forms.proofs.node_rest.level_limit.Goals as goal

pub returns : goal.returns
returns c = rw c.port_width.ensures.value (width_fits c.args.port)
