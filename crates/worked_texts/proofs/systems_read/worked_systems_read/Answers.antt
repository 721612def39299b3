use Rattle.std.proofs.Common.{refl}
use Rattle.system_model.specs.System.{system_of}
use Rattle.worked_texts.proofs.Computes.{computes}
use Rattle.worked_texts.proofs.systems_read.worked_systems_read.Goals as goal

pub returns-clause-refusals : goal.returns-clause-refusals
unfolding computes
returns-clause-refusals c = record {
  first = refl;
  second_edition = refl;
  networks = refl;
  bad = refl;
  bad_in_a_pair = refl;
  wide = refl;
  none = refl;
  again = refl;
  pins = refl;
  too_many = refl;
  too_many_links = refl;
  at_the_end = refl;
}

pub returns-clause-systems : goal.returns-clause-systems
unfolding computes
returns-clause-systems c = record { any_order = refl; plan = refl; three = refl; eight = refl; edges = refl; no_node = refl; second = refl; second_edges = refl; second_no_node = refl; networks = refl }

pub returns-clause-length : goal.returns-clause-length
unfolding system_of
returns-clause-length c = record {
  longest = λ bytes long. rw long;
  longer = λ bytes long. rw long;
}
