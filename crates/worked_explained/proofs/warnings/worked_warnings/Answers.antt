use Rattle.std.proofs.Common.{refl}
use Rattle.worked_explained.proofs.Computes.{computes}
use Rattle.worked_explained.proofs.warnings.worked_warnings.Goals as goal

pub returns : goal.returns
unfolding computes
returns c = record {
  warned = record {
    code_ends = refl;
    none = refl;
    label_unnamed = refl;
    nothing_behind = refl;
    register_unnamed = refl;
    got_again = refl;
    destination = refl;
    once = refl;
  };
}
