use Rattle.std.proofs.Common.{ap, ◌∙◌}
use Rattle.xs_model.specs.Record.{CoreRec}
use Rattle.core_step.proofs.network.Network.still.Goals as goal

pub returns : goal.returns
returns c = record {
  value = rw (← c.self.view_is) (λ rec core inputs links. c.still.ensures.value rec inputs (c.chans.ensures ∙ ap (λ (units : CoreRec). units.chans) core) links);
}
