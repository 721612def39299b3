use Rattle.std.proofs.Common.{ap}
use Rattle.bitflags.specs.Sets.{known_from}
use Rattle.xs_model.specs.Status.{status}
use Rattle.xs_model.proofs.status.Status.of_word.Goals as goal

pub returns : goal.returns
unfolding known_from
returns c = record { value = ap status (c.from_bits_truncate.ensures tt) }
