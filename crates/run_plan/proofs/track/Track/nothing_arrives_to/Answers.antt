use Rattle.std.proofs.Common.{sym, arith}
use Rattle.run_plan.proofs.Waiting.{next_to_come}
use Rattle.run_plan.proofs.track.Track.nothing_arrives_to.Goals as goal

pub returns-clause-quiet : goal.returns-clause-quiet
returns-clause-quiet c = λ on.
    let track = c.args.self.now in
    next_to_come c.args.from c.before_next.result track.delay track.first track.history.entries c.next_entry.result (omega (arith, on)) c.requires.track.due c.requires.track.in_order
    (sym c.next_entry.ensures) c.before_next.ensures.before
