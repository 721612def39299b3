use Rattle.std.proofs.Common.{refl}
use Rattle.worked_machine.specs.Pair.{pair_from}
use Rattle.worked_machine.proofs.Computes.{computes}
use Rattle.worked_machine.proofs.pair.worked_pair.Goals as goal

pub returns-clause-arrived : goal.returns-clause-arrived
unfolding computes pair_from
returns-clause-arrived c = record { sent = refl; credits = refl; delivered = refl; not_yet = refl; three = refl }

pub returns-clause-lost : goal.returns-clause-lost
unfolding computes pair_from
returns-clause-lost c = record { told = refl; sent = refl; credits = refl }

pub returns-clause-full : goal.returns-clause-full
unfolding computes pair_from
returns-clause-full c = record { delivered = refl; sent = refl; last_sent = refl; credits = refl; no_credits = refl; seven_wait = refl; eight_wait = refl; still_eight = refl }

pub returns-clause-late : goal.returns-clause-late
unfolding computes pair_from
returns-clause-late c = record { input = refl; link = refl; output = refl; sent_before = refl; credits_before = refl; delivered = refl; sent = refl; credits = refl }
