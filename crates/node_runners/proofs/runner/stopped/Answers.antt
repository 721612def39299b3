use Rattle.std.proofs.Common.{refl}
use Rattle.node_runners.proofs.Stops.{is_at_limit}
use Rattle.node_runners.proofs.runner.stopped.Goals as goal

pub returns-in-None : goal.returns-in-None
returns-in-None c = record {
  stops = is_at_limit c.args.horizon.now c.args.clock c.requires.stopped c.requires.ends c.requires.ahead (c.in-None.ensures.none refl) c.requires.within;
}
