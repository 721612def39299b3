use Rattle.std.proofs.Common.{refl}
use Rattle.worked_explained.proofs.Computes.{computes}
use Rattle.worked_explained.proofs.frame_lines.worked_frame_lines.Goals as goal

pub returns : goal.returns
unfolding computes
returns c = record {
  told = record {
    word_left_out = refl;
    ends_early = refl;
    misspelled = refl;
    wire_of_1 = refl;
    step_too_long = refl;
    first_line = refl;
    out_of_range = refl;
    node_twice = refl;
    id_twice = refl;
    link_end_twice = refl;
    no_such_node = refl;
    no_such_end = refl;
    no_source = refl;
    not_ended = refl;
    within_source = refl;
  };
}
