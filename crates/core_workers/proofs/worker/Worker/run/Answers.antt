use Rattle.std.proofs.Common.{sym, subst}
use Rattle.link_logs.specs.declared.answers.Cause.TheVariants as cause
use Rattle.core_workers.specs.declared.turn.Turn.{Turn}
use Rattle.core_workers.specs.declared.turn.Turn.TheVariants as turn
use Rattle.core_workers.specs.Worker.{Answers}
use Rattle.core_workers.specs.declared.ended.Ended.{Ended}
use Rattle.core_workers.specs.Turns.{IsOneOfMore, RunsBy}
use Rattle.core_workers.proofs.Running.{keeps_all, keeps_then, turn_keeps, stop_keeps, stopped_by}
use Rattle.core_workers.proofs.Turns.{no_turn, one_turn_more, last_turn}
use Rattle.core_workers.proofs.worker.Worker.run.Goals as goal

pub loop-init : goal.loop-init
loop-init g c = record { keeps = keeps_all c.args.self.now; still_open = c.requires.open; taken = no_turn c.args.self.now }

pub loop-preserved-in-Ran : goal.loop-preserved-in-Ran
loop-preserved-in-Ran g c = record {
  keeps = keeps_then c.args.self.now c.loop.self c.turn.new.self c.loop.invariant.keeps (turn_keeps c.loop.self c.turn.new.self c.turn.ensures.stays);
  still_open = c.turn.ensures.open;
  taken =
      one_turn_more c.args.self.now c.loop.self c.turn.result c.turn.new.self c.loop.invariant.taken (subst IsOneOfMore (sym c.in-Ran.is) tt)
      (record { still_open = c.loop.invariant.still_open; stays = c.turn.ensures.stays; exchanged = c.turn.ensures.exchanged; answer = c.turn.ensures.answer; keeps = c.turn.ensures.keeps });
}

pub loop-preserved-in-Blocked : goal.loop-preserved-in-Blocked
loop-preserved-in-Blocked g c = record {
  keeps = keeps_then c.args.self.now c.loop.self c.turn.new.self c.loop.invariant.keeps (turn_keeps c.loop.self c.turn.new.self c.turn.ensures.stays);
  still_open = c.turn.ensures.open;
  taken =
      one_turn_more c.args.self.now c.loop.self c.turn.result c.turn.new.self c.loop.invariant.taken (subst IsOneOfMore (sym c.in-Blocked.is) tt)
      (record { still_open = c.loop.invariant.still_open; stays = c.turn.ensures.stays; exchanged = c.turn.ensures.exchanged; answer = c.turn.ensures.answer; keeps = c.turn.ensures.keeps });
}

pub loop-preserved : goal.loop-preserved
loop-preserved g c = record {
  keeps = keeps_then c.args.self.now c.loop.self c.turn.new.self c.loop.invariant.keeps (turn_keeps c.loop.self c.turn.new.self c.turn.ensures.stays);
  still_open = c.turn.ensures.open;
  taken =
      one_turn_more c.args.self.now c.loop.self c.turn.result c.turn.new.self c.loop.invariant.taken (subst IsOneOfMore (sym c.in-Busy.is) tt)
      (record { still_open = c.loop.invariant.still_open; stays = c.turn.ensures.stays; exchanged = c.turn.ensures.exchanged; answer = c.turn.ensures.answer; keeps = c.turn.ensures.keeps });
}

pub returns-in-Finished-clause-keeps : goal.returns-in-Finished-clause-keeps
returns-in-Finished-clause-keeps g c =
    keeps_then c.args.self.now c.loop.self c.turn.new.self c.loop.invariant.keeps (turn_keeps c.loop.self c.turn.new.self c.turn.ensures.stays)

pub returns-in-Stopped-clause-keeps : goal.returns-in-Stopped-clause-keeps
returns-in-Stopped-clause-keeps g c =
    let turned = keeps_then c.args.self.now c.loop.self c.turn.new.self c.loop.invariant.keeps (turn_keeps c.loop.self c.turn.new.self c.turn.ensures.stays) in
    keeps_then c.args.self.now c.turn.new.self c.stop.new.self turned (stop_keeps (cause.Neighbour c.in-Stopped.link) c.turn.new.self c.stop.new.self c.stop.ensures.closed c.stop.ensures.rest)

pub returns-in-Stopped-clause-ended : goal.returns-in-Stopped-clause-ended
returns-in-Stopped-clause-ended g c =
    let answer = subst (λ (t : Turn). Answers c.loop.self t c.turn.new.self) c.in-Stopped.is c.turn.ensures.answer in
    stopped_by c.turn.new.self c.stop.new.self c.in-Stopped.link answer.1 answer.2 c.turn.ensures.open c.stop.ensures.closed c.stop.ensures.rest

pub returns-in-Memory-clause-keeps : goal.returns-in-Memory-clause-keeps
returns-in-Memory-clause-keeps g c =
    let turned = keeps_then c.args.self.now c.loop.self c.turn.new.self c.loop.invariant.keeps (turn_keeps c.loop.self c.turn.new.self c.turn.ensures.stays) in
    keeps_then c.args.self.now c.turn.new.self c.give_up.new.self turned c.give_up.ensures.keeps

pub returns-in-Finished-clause-turns : goal.returns-in-Finished-clause-turns
returns-in-Finished-clause-turns g c =
    last_turn c.args.self.now c.loop.self c.turn.result turn.Finished c.turn.new.self c.loop.invariant.taken c.in-Finished.is
    (record { still_open = c.loop.invariant.still_open; stays = c.turn.ensures.stays; exchanged = c.turn.ensures.exchanged; answer = c.turn.ensures.answer; keeps = c.turn.ensures.keeps })

pub returns-in-Stopped-clause-turns : goal.returns-in-Stopped-clause-turns
returns-in-Stopped-clause-turns g c =
    let takes = last_turn c.args.self.now c.loop.self c.turn.result (turn.Stopped c.in-Stopped.link) c.turn.new.self c.loop.invariant.taken c.in-Stopped.is
    (record { still_open = c.loop.invariant.still_open; stays = c.turn.ensures.stays; exchanged = c.turn.ensures.exchanged; answer = c.turn.ensures.answer; keeps = c.turn.ensures.keeps }) in
    (c.in-Stopped.link, record { turned = c.turn.new.self; takes = takes; shuts = record { closed = c.stop.ensures.closed; rest = c.stop.ensures.rest } })

pub returns-in-Memory-clause-turns : goal.returns-in-Memory-clause-turns
returns-in-Memory-clause-turns g c =
    let takes = last_turn c.args.self.now c.loop.self c.turn.result turn.Memory c.turn.new.self c.loop.invariant.taken c.in-Memory.is
    (record { still_open = c.loop.invariant.still_open; stays = c.turn.ensures.stays; exchanged = c.turn.ensures.exchanged; answer = c.turn.ensures.answer; keeps = c.turn.ensures.keeps }) in
    subst (λ (e : Ended). RunsBy c.args.self.now e c.give_up.new.self) (sym c.give_up.ensures.memory)
    (record { turned = c.turn.new.self; takes = takes; shuts = c.give_up.ensures.shuts })
