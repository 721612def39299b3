use Rattle.std.proofs.Common.{◌∙◌, subst}
use Rattle.plan_cells.specs.Ends.{CellsRec}
use Rattle.worker_threads.specs.Team.{IsFresh, IsHere, IsPlace, HasNoTurns}
use Rattle.worker_threads.proofs.place.Place.left.Goals as goal

pub new-requires : goal.new-requires
new-requires g c =
    let own = c.requires.place in
    let there = subst (IsPlace c.args.lanes.now own.0 own.1) c.in-There.is own.2 in
    record { fresh = subst (λ (cells : CellsRec). IsFresh cells c.in-Unstarted.node) there.0 c.in-Unstarted.ensures.fresh }

pub returns-in-Unstarted : goal.returns-in-Unstarted
returns-in-Unstarted g c = record {
  left = λ limit n is.
      let there = subst (IsPlace c.args.lanes.now limit n) c.in-There.is is in
      let node = c.in-Unstarted.node in
      let fresh = c.in-Unstarted.ensures in
      c.finish.ensures.left c.args.lanes.now limit n
      (subst (λ slot. IsHere c.args.lanes.now slot n c.new.result) (fresh.limit_is ∙ there.1)
      (subst (λ m. IsHere c.args.lanes.now node.runner.horizon.limit m c.new.result) (fresh.node_is ∙ there.2) c.new.ensures.here));
}

pub left-requires : goal.left-requires
left-requires g c = record { over = subst HasNoTurns c.in-Here.is c.requires.over }

pub returns-in-Here : goal.returns-in-Here
returns-in-Here g c = record { left = λ limit n is. c.left.ensures.left c.args.lanes.now limit n (subst (IsPlace c.args.lanes.now limit n) c.in-Here.is is) }
