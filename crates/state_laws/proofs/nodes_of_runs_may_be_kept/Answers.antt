use Rattle.locality_laws.proofs.Shown.{shown_levels_fit}
use Rattle.state_laws.proofs.Serial.{kept_in_every_run}
use Rattle.state_laws.proofs.nodes_of_runs_may_be_kept.Goals as goal

pub returns : goal.returns
returns c = record { run = kept_in_every_run shown_levels_fit }
