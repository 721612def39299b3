use Rattle.std.proofs.Common.{refl}
use Rattle.worked_answers.proofs.Computes.{computes}
use Rattle.worked_answers.proofs.pairs.worked_pairs.Goals as goal

pub returns : goal.returns
unfolding computes
returns c = record {
  both_in_one_slot = refl;
  in_turn = refl;
  pair = refl;
  pair_cut = refl;
  lost = refl;
  three = refl;
  both_ways = refl;
}
