use Rattle.std.proofs.Common.{refl}
use Rattle.worked_explained.proofs.Computes.{computes}
use Rattle.worked_explained.proofs.script_lines.worked_script_lines.Goals as goal

pub returns : goal.returns
unfolding computes
returns c = record {
  told = record {
    bad_short = refl;
    bad_many = refl;
    bad_first = refl;
    bad_port = refl;
    bad_value = refl;
    bad_end = refl;
    bad_byte = refl;
    no_port = refl;
    falls = refl;
    wide = refl;
    wide16 = refl;
    no_node = refl;
    twice = refl;
    twice2 = refl;
  };
}
