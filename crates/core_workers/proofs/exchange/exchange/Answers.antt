use Rattle.std.proofs.Common.{arith}
use Rattle.core_workers.specs.Worker.{RunsOn}
use Rattle.core_workers.proofs.Exchanges.{worker, Heard, Turned, heard_worker, heard_stays, ran_worker, ran_stays, turned_worker, turned_handed, exchanged}
use Rattle.core_workers.proofs.exchange.exchange.Goals as goal
use Rattle.core_workers.proofs.exchange.exchange.Goals.{After-hear_all, After-run_all, After-tell_all}

-- ---- What the three parts of the turn have left

has_heard : (c : After-hear_all) → Heard (worker c.args.cells.now c.args.runner.now c.args.ends.now) c.hear_all.new.runner c.hear_all.new.ends
has_heard c = record { listens = c.hear_all.ensures.listens; rest = c.hear_all.ensures.rest; outgoing = c.hear_all.ensures.outgoing; stays = c.hear_all.ensures.stays }

has_run : (c : After-run_all) → RunsOn c.hear_all.new.runner c.run_all.new.runner
has_run c = record { rest = c.run_all.ensures.rest; on = c.run_all.ensures.on; busy = c.run_all.ensures.busy }

has_turned : (c : After-tell_all)
    → Turned (worker c.args.cells.now c.args.runner.now c.args.ends.now) c.hear_all.new.runner c.hear_all.new.ends c.in_ok-ran.ran c.run_all.new.runner c.tell_all.new.runner c.tell_all.new.ends
has_turned c = record {
  start = c.requires.worker;
  heard = record { listens = c.hear_all.ensures.listens; rest = c.hear_all.ensures.rest; outgoing = c.hear_all.ensures.outgoing; stays = c.hear_all.ensures.stays };
  tried = c.in_ok-hear_all.ensures.tried;
  ran = record { rest = c.run_all.ensures.rest; on = c.run_all.ensures.on; busy = c.run_all.ensures.busy };
  stops = c.in_ok-ran.ensures.stops;
  within = omega (arith, c.clock-to.ensures.within, c.clock-to.ensures.value);
  ahead = λ end s sees. omega (arith, c.clock-to.ensures.ahead end s sees, c.clock-to.ensures.value);
  told = record { tells = c.tell_all.ensures.tells; rest = c.tell_all.ensures.rest; incoming = c.tell_all.ensures.incoming; stays = c.tell_all.ensures.stays };
}

-- ---- Where a part has wanted memory

pub returns-in_err-hear_all-clause-worker : goal.returns-in_err-hear_all-clause-worker
returns-in_err-hear_all-clause-worker c = heard_worker c.requires.worker (has_heard (goal.at.returns-in_err-hear_all-clause-worker c).After-hear_all)

pub returns-in_err-hear_all-clause-stays : goal.returns-in_err-hear_all-clause-stays
returns-in_err-hear_all-clause-stays c = heard_stays (has_heard (goal.at.returns-in_err-hear_all-clause-stays c).After-hear_all)

pub run_all-requires : goal.run_all-requires
run_all-requires c = record { busy = (heard_worker c.requires.worker (has_heard (goal.at.run_all-requires c).After-hear_all)).busy }

pub returns-in_err-ran-clause-worker : goal.returns-in_err-ran-clause-worker
returns-in_err-ran-clause-worker c =
    let at = goal.at.returns-in_err-ran-clause-worker c in
    ran_worker (heard_worker c.requires.worker (has_heard at.After-hear_all)) (has_run at.After-run_all)

pub returns-in_err-ran-clause-stays : goal.returns-in_err-ran-clause-stays
returns-in_err-ran-clause-stays c =
    let at = goal.at.returns-in_err-ran-clause-stays c in
    ran_stays (heard_stays (has_heard at.After-hear_all)) (has_run at.After-run_all)

pub returns-in_err-tell_all-clause-worker : goal.returns-in_err-tell_all-clause-worker
returns-in_err-tell_all-clause-worker c = turned_worker (has_turned (goal.at.returns-in_err-tell_all-clause-worker c).After-tell_all)

-- ---- Where all parts had it

pub answer_of-requires-clause-worker : goal.answer_of-requires-clause-worker
answer_of-requires-clause-worker c = turned_worker (has_turned (goal.at.answer_of-requires-clause-worker c).After-tell_all)

pub answer_of-requires-clause-none_in_hand : goal.answer_of-requires-clause-none_in_hand
answer_of-requires-clause-none_in_hand c = turned_handed (has_turned (goal.at.answer_of-requires-clause-none_in_hand c).After-tell_all)

pub returns-clause-worker : goal.returns-clause-worker
returns-clause-worker c = turned_worker (has_turned (goal.at.returns-clause-worker c).After-tell_all)

pub returns-clause-exchanged : goal.returns-clause-exchanged
returns-clause-exchanged c = exchanged (has_turned (goal.at.returns-clause-exchanged c).After-tell_all) c.in_ok-tell_all.ensures.told
