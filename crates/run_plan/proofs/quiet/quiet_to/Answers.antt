use Rattle.std.proofs.Common.{◌<◌, arith}
use Rattle.run_plan.proofs.Skipped.{rest_sooner, tracks_sooner}
use Rattle.run_plan.proofs.quiet.quiet_to.Goals as goal

pub returns-clause-quiet : goal.returns-clause-quiet
returns-clause-quiet c = λ some.
    let rest = c.nodes_rest_to-to.result in
    let until = c.nothing_arrives_to-to.result in
    let to = c.nothing_comes_to.result in
    let less : c.args.from < rest = omega (arith, c.if-to-from.false) in
    let within = c.nothing_comes_to.ensures.within in
    let first : c.args.from < until = omega (arith, some, within) in
    record {
      nodes = rest_sooner c.args.from to rest (omega (arith, within, c.nothing_arrives_to-to.ensures.within)) c.args.stations.now (c.nodes_rest_to-to.ensures.quiet less);
      arcs = tracks_sooner c.args.from to until some within c.args.tracks.now c.requires.tracks (c.nothing_arrives_to-to.ensures.quiet first);
      wires = c.nothing_comes_to.ensures.quiet some;
    }
