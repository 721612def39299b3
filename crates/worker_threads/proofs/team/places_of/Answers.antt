use Rattle.std.proofs.Common.{◌≡◌, length, ap, sym, subst, arith}
use Rattle.std.specs.List.{AllByRecursion}
use Rattle.std.proofs.lemmas.List.{length_push}
use Rattle.std.specs.Vec.Iter.{into_iter_items}
use Rattle.worker_threads.specs.declared.place.Place.{Place}
use Rattle.worker_threads.specs.Team.{IsFreshAt, IsReady, IsPlace}
use Rattle.worker_threads.proofs.Teams.{none_done, all_left, first_left, one_done, fewer_left, one_more}
use Rattle.worker_threads.proofs.team.places_of.Goals as goal

pub loop-node-init : goal.loop-node-init
loop-node-init g c =
    let gives = c.into_iter-node-iterator.ensures.into_iter_gives in
    let none = c.in_ok-places.ensures.items in
    record {
      count = omega (arith, gives.1, c.args.nodes.ok.0, ap (length {A = Place}) none, c.requires.fresh.count);
      rest = all_left (IsFreshAt c.args.lanes.now c.args.limit) c.in_ok-places.places.items (into_iter_items c.into_iter-node-iterator.result) c.args.nodes.items none gives.0 c.requires.fresh.each;
      places = none_done (IsPlace c.args.lanes.now c.args.limit) c.in_ok-places.places.items none;
      ready = subst (λ (xs : _). AllByRecursion IsReady xs) (sym none) tt;
    }

pub place_of-requires-clause-fresh : goal.place_of-requires-clause-fresh
place_of-requires-clause-fresh g c κs within =
    (first_left (IsFreshAt c.args.lanes.now c.args.limit) (length c.loop-node.places.items) (into_iter_items c.loop-node.node-iterator) (into_iter_items c.next.new.self) c.in-Some.node c.in-Some.ensures.steps.0 c.loop-node.invariant.rest).0.fresh

pub place_of-requires-clause-limit : goal.place_of-requires-clause-limit
place_of-requires-clause-limit g c κs within =
    (first_left (IsFreshAt c.args.lanes.now c.args.limit) (length c.loop-node.places.items) (into_iter_items c.loop-node.node-iterator) (into_iter_items c.next.new.self) c.in-Some.node c.in-Some.ensures.steps.0 c.loop-node.invariant.rest).0.limit_is

pub place_of-requires-clause-flag : goal.place_of-requires-clause-flag
place_of-requires-clause-flag g c κs within =
    let fresh = (first_left (IsFreshAt c.args.lanes.now c.args.limit) (length c.loop-node.places.items) (into_iter_items c.loop-node.node-iterator) (into_iter_items c.next.new.self) c.in-Some.node c.in-Some.ensures.steps.0 c.loop-node.invariant.rest).0 in
    omega (arith, fresh.fresh.there, c.requires.flags)

pub loop-node-preserved : goal.loop-node-preserved
loop-node-preserved g c =
    let was = c.loop-node.invariant in
    let step = c.in-Some.ensures.steps in
    let done = c.loop-node.places.items in
    let pushed = c.in_ok-push.ensures.items in
    let first = first_left (IsFreshAt c.args.lanes.now c.args.limit) (length done) (into_iter_items c.loop-node.node-iterator) (into_iter_items c.next.new.self) c.in-Some.node step.0 was.rest in
    record {
      count = omega (arith, was.count, step.1, ap (length {A = Place}) pushed, length_push done c.place_of.result);
      rest = fewer_left (IsFreshAt c.args.lanes.now c.args.limit) done c.push.new.self.items c.place_of.result (into_iter_items c.next.new.self) pushed first.1;
      places = one_done (IsPlace c.args.lanes.now c.args.limit) done c.push.new.self.items c.place_of.result pushed was.places
          (subst (λ n. IsPlace c.args.lanes.now c.args.limit n c.place_of.result) first.0.node_is c.place_of.ensures.place);
      ready = one_more IsReady done c.push.new.self.items c.place_of.result pushed was.ready c.place_of.ensures.ready;
    }

pub returns-clause-places : goal.returns-clause-places
returns-clause-places g c = record { count = omega (arith, c.loop-node.invariant.count, c.in-None.ensures.steps.0); each = c.loop-node.invariant.places }

pub returns-clause-ready : goal.returns-clause-ready
returns-clause-ready g c = c.loop-node.invariant.ready
