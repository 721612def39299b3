use Rattle.snap_sizes.proofs.Whole.{snap_has_size, snap_has_most, snap_is_short}
use Rattle.snap_sizes.proofs.snaps_are_short.Goals as goal

pub returns : goal.returns
returns c = record { size = snap_has_size; most = snap_has_most; short = snap_is_short }
