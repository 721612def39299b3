use Rattle.routes_laws.proofs.Yes.{judgement}
use Rattle.routes_laws.proofs.yes_is_a_certificate.Goals as goal

pub returns : goal.returns
returns c = record {
  yes = λ words input is text.
      let found = judgement input words is text in
      record {
        ranks = found.ranks;
        plan = found.plan;
        reads = found.reads;
        stands = found.stands;
        arrive = λ is_plan. c.walks_arrive.ensures.arrive found.plan found.ranks is_plan found.yes;
        rise = λ slot is_plan. c.held_routes_rise.ensures.rise found.plan found.ranks slot is_plan found.yes;
      };
}
