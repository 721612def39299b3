use Rattle.saved_laws.proofs.Kept.{links_may_be_kept}
use Rattle.saved_laws.proofs.saved_links_may_be_kept.Goals as goal

pub returns : goal.returns
returns c = record { links = links_may_be_kept }
