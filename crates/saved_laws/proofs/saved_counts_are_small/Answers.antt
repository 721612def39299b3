use Rattle.saved_laws.proofs.Shape.{events_are_counted}
use Rattle.saved_laws.proofs.saved_counts_are_small.Goals as goal

pub returns : goal.returns
returns c = record { events = events_are_counted }
