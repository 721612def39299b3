use Rattle.std.proofs.Common.{refl}
use Rattle.worked_answers.proofs.Computes.{computes}
use Rattle.worked_answers.proofs.routes.worked_routes.Goals as goal

pub returns-clause-form : goal.returns-clause-form
unfolding computes
returns-clause-form c = record {
  routes = refl;
  another_case = refl;
  has_no_slots = refl;
  no_empty_word = refl;
  usage = refl;
  goes_on = refl;
  asks = refl;
  takes = refl;
  most = refl;
  reads = refl;
}

pub returns-clause-verdicts : goal.returns-clause-verdicts
unfolding computes
returns-clause-verdicts c = record {
  no_nodes = refl;
  one_node = refl;
  unjoined = refl;
  no_way = refl;
  no_rank = refl;
}

pub returns-clause-ranks : goal.returns-clause-ranks
unfolding computes
returns-clause-ranks c = record {
  nothing = refl;
  no_system = refl;
  system_text = refl;
  node_100 = refl;
  end_8 = refl;
  rank_65536 = refl;
  line_first = refl;
  no_text = refl;
  system_first = refl;
  source_first = refl;
  script_first = refl;
  no_end = refl;
  twice = refl;
  missing = refl;
  not_there = refl;
}
