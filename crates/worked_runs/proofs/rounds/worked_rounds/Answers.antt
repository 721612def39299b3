use Rattle.std.proofs.Common.{refl}
use Rattle.worked_runs.proofs.Computes.{computes}
use Rattle.worked_runs.proofs.rounds.worked_rounds.Goals as goal

pub returns-clause-lone : goal.returns-clause-lone
unfolding computes
returns-clause-lone c = record { no_slots = refl; one_slot = refl; many = refl; both_at_once = refl; no_delay = refl }

pub returns-clause-pair : goal.returns-clause-pair
unfolding computes
returns-clause-pair c = record {
  before = refl;
  first = refl;
  seventh = refl;
  eighth = refl;
  ninth = refl;
  to_40 = refl;
  to_41 = refl;
  to_44 = refl;
  to_45 = refl;
  to_1 = refl;
  to_5 = refl;
  to_6 = refl;
  to_0 = refl;
}

pub returns-clause-in_step : goal.returns-clause-in_step
unfolding computes
returns-clause-in_step c = record { first = refl; third = refl; fifth = refl; five = refl }

pub returns-clause-ring : goal.returns-clause-ring
unfolding computes
returns-clause-ring c = record { first = refl; second = refl; fifth = refl; sixth = refl; seventh = refl; to_20 = refl; to_21 = refl; to_22 = refl; least = refl }

pub returns-clause-two_ways : goal.returns-clause-two_ways
unfolding computes
returns-clause-two_ways c = record { first = refl; second = refl; third = refl; to_10 = refl }
